-- Hidden parts united: the room for it, what changes, and what the form stands for then.
use Rattle.std.specs.Prelude.{◌≡◌, refl, ◌⊎◌, Bool, true, ℕ, ◌+◌, ◌*◌, ◌≤◌, ◌<◌, length, take}
use Rattle.std.proofs.Math.Path.{sym, ap, subst}
use Rattle.std.proofs.Common.{ap₂, ◌∙◌, ⊎_elim, arith}
use Rattle.std.proofs.Math.Logic.{inl, inr}
use Rattle.std.proofs.Math.Bool.{false}
use mathlib.Core.List.{List, [], ◌∷◌, map}
use Rattle.meaning.specs.Lists.{pick, keep, union}
use Rattle.meaning.specs.Names.{Name}
use Rattle.meaning.specs.Origins.{FunctionType, Item, one_item}
use Rattle.meaning.specs.Normal.{Visible, Normal}
use Rattle.form_rows.specs.Rows.{row_size}
use Rattle.form.specs.declared.Form.{Form}
use Rattle.form.specs.declared.Block.{Block}
use Rattle.form.specs.Memory.{part, KeptTwo}
use Rattle.form.specs.Forms.{items_at, visible_at, Stands}
use Rattle.form.specs.FormLaws.{kept_two_same, items_same}
use Rattle.form.specs.Blocks.{Outside}
use Rattle.form_frames.specs.Changes.{apart_in, outside, outside_in, tape_kept_two, still_stands_two}
use Rattle.clause_translation.specs.declared.Mode.{Mode}
use Rattle.clause_translation.specs.Translation.{moved_in, moved_hidden}
use Rattle.unite_items.specs.Absorb.{Absorbed, taken}
use Rattle.unite_items.specs.Turns.{RoomWithin}
use Rattle.unite_nodes.specs.declared.Notes.{Notes}
use Rattle.unite_nodes.specs.Joined.{with_counts, Out, out, joined}
use Rattle.unite_nodes.specs.Grown.{Grown, joined_grown}
use Rattle.unite_nodes.specs.Found.{Noted}
use Rattle.unite_nodes.specs.Pointed.{noted_stays}
use Rattle.unite_nodes.specs.Joins.{Joining, joined_stands}
use Rattle.unite.specs.Rooms.{HiddenRoomWithin}
use Rattle.unite.specs.United.{with_items, hidden_onto, within, ItemsUnited, sorts, functions, HiddenUnitedWithin}
use Rattle.unite.specs.Standing.{visible_same, stands_more}
use Rattle.unite.specs.Noting.{all_noted}

-- ---- items that are all taken

pub keep_all : (text : List ℕ) (p : ℕ) (xs : List Item) → keep (taken text false p) xs ≡ xs
unfolding keep taken pick
keep_all text p [] = refl
keep_all text p (x ∷ xs) = ap (λ (ys : List Item). x ∷ ys) (keep_all text p xs)

-- what comes of two tables, where all rows of the second are taken
union_all : (text tape w : List ℕ) (m : Mode) (visible : Bool) (s ns d nd : ℕ) (xs ys : List Item)
    → items_at text tape w d nd ≡ xs → items_at text tape w s ns ≡ ys
    → union one_item (items_at text tape w d nd) (map (moved_in text tape w m visible) (keep (taken text false m.parameter) (items_at text tape w s ns)))
    ≡ union one_item xs (map (moved_in text tape w m visible) ys)
union_all text tape w m visible s ns d nd xs ys e f =
    ap₂ (λ (us vs : List Item). union one_item us (map (moved_in text tape w m visible) vs)) e (keep_all text m.parameter _ ∙ f)

-- what a table holds whose rows were all absorbed
pub absorbed_all : (text tape w : List ℕ) (m : Mode) (visible : Bool) (s ns d nd o r : ℕ) (w' : List ℕ) (xs ys : List Item)
    → Absorbed text tape w m visible false s ns d nd o r w' → items_at text tape w d nd ≡ xs → items_at text tape w s ns ≡ ys
    → items_at text tape w' d r ≡ union one_item xs (map (moved_in text tape w m visible) ys)
absorbed_all text tape w m visible s ns d nd o r w' xs ys x e f = x.items ∙ union_all text tape w m visible s ns d nd xs ys e f

-- ---- places

module _ (text : List ℕ) (t : ℕ) (w : List ℕ) (m : Mode) (g f : Form) (b : Block) (notes cap : ℕ)
    (room : HiddenRoomWithin (length w) t m g f b notes cap) where
  pub items_room : RoomWithin (length w) t m g.hidden g.hidden_count f.hidden cap b.hidden_notes
  items_room = record {
    tape_table = room.tape;
    tape_note = omega arith;
    table = omega arith;
    note = room.hidden_notes;
    few = room.few;
    table_note = inr (omega arith);
    table_source = apart_in (omega arith) room.outside.hidden;
    note_source = apart_in (omega arith) room.outside.hidden;
    table_mode = apart_in (omega arith) room.mode;
    note_mode = apart_in (omega arith) room.mode;
  }

  abbrev first : ℕ
  first = f.hidden + f.hidden_count * row_size

  abbrev last : ℕ
  last = f.hidden + cap * row_size

  abbrev note : ℕ
  note = b.hidden_notes

  abbrev note_end : ℕ
  note_end = b.hidden_notes + g.hidden_count

  own_rows : Outside first last f
  own_rows = outside (omega arith)

  own_notes : Outside note note_end f
  own_notes = outside (omega arith)

  source_rows : Outside first last g
  source_rows = outside_in (omega arith) room.outside

  source_notes : Outside note note_end g
  source_notes = outside_in (omega arith) room.outside

  -- ---- the items

  module _ (h : Form) (w₁ : List ℕ) (x : ItemsUnited text t w m g f note cap h w₁) where
    abbrev σ : Name → Name
    σ = sorts text t w m

    abbrev φ : Name → FunctionType → Name
    φ = functions text t w m

    abbrev count : ℕ
    count = h.hidden_count

    abbrev grown : Form
    grown = with_items f f.parameter_count f.visible_count count

    kept : KeptTwo first last note note_end w w₁
    kept = x.absorbed.kept

    note_behind : t ≤ note
    note_behind = omega (arith, room)

    tape_stays : part w₁ 0 t ≡ part w 0 t
    tape_stays = tape_kept_two (omega arith) note_behind kept

    source_stands : (from : Normal) → Stands text (part w 0 t) w g from → Stands text (part w₁ 0 t) w₁ g from
    source_stands from s = still_stands_two (omega (arith, room)) note_behind kept source_rows source_notes s

    abbrev taken_up : Normal → Normal → Normal
    taken_up from to = record {
      visible = to.visible;
      hidden = record { items = (hidden_onto σ φ to.hidden from.hidden).items; equations = to.hidden.equations };
    }

    come_up : (from to : Normal) → Stands text (part w 0 t) w g from → Stands text (part w 0 t) w f to
        → union one_item (items_at text (part w 0 t) w f.hidden f.hidden_count)
        (map (moved_in text (part w 0 t) w m false) (keep (taken text false m.parameter) (items_at text (part w 0 t) w g.hidden g.hidden_count)))
        ≡ (hidden_onto σ φ to.hidden from.hidden).items
    unfolding hidden_onto moved_in moved_hidden pick
    come_up from to s z =
        union_all text (part w 0 t) w m false g.hidden g.hidden_count f.hidden f.hidden_count
        to.hidden.items from.hidden.items z.hidden s.hidden

    abbrev All : Type 0
    All = (count < cap) ⊎ (f.hidden_count + g.hidden_count ≤ cap)

    target_stands : All → (from to : Normal) → Stands text (part w 0 t) w g from → Stands text (part w 0 t) w f to
        → Stands text (part w₁ 0 t) w₁ grown (taken_up from to)
    unfolding visible_at
    target_stands all from to s z =
        let stood = still_stands_two {t = t} (omega (arith, room)) note_behind kept own_rows own_notes z in
        stands_more text (part w₁ 0 t) w₁ f f.parameter_count f.visible_count count (omega (arith, room)) x.absorbed.grows to
        to.visible.parameters to.visible.items (hidden_onto σ φ to.hidden from.hidden).items stood
        (ap (λ (v : Visible). v.parameters) stood.visible) (ap (λ (v : Visible). v.items) stood.visible)
        (ap (λ (tape : List ℕ). items_at text tape w₁ f.hidden count) tape_stays ∙ (x.absorbed.whole all).items ∙ come_up from to s z)

    -- ---- the equations

    abbrev places : Notes
    places = record { visible = notes; hidden = note; equation_room = b.equation_room; node_room = b.node_room }

    visible_noted : Noted σ φ text (part w 0 t) w true notes g.visible g.visible_count f.visible f.visible_count
        → Noted σ φ text (part w₁ 0 t) w₁ true notes g.visible g.visible_count f.visible f.visible_count
    visible_noted n =
        subst (λ (tape : List ℕ). Noted σ φ text tape w₁ true notes g.visible g.visible_count f.visible f.visible_count) (sym tape_stays)
        (noted_stays σ φ text (part w 0 t) w w₁ true notes g.visible g.visible_count f.visible f.visible_count
        (kept_two_same first last note note_end _ _ w w₁ (apart_in (omega (arith, room)) room.notes_rows) room.notes_notes kept)
        (kept_two_same first last note note_end _ _ w w₁ source_rows.visible source_notes.visible kept)
        (kept_two_same first last note note_end _ _ w w₁ own_rows.visible own_notes.visible kept) n)

    hidden_noted : All → Noted σ φ text (part w₁ 0 t) w₁ false note g.hidden g.hidden_count f.hidden count
    hidden_noted all =
        subst (λ (tape : List ℕ). Noted σ φ text tape w₁ false note g.hidden g.hidden_count f.hidden count) (sym tape_stays)
        (all_noted text (part w 0 t) w m false g.hidden g.hidden_count f.hidden f.hidden_count note count w₁
        (x.absorbed.whole all) (omega (arith, room, x.absorbed.within))
        (kept_two_same first last note note_end _ _ w w₁ source_rows.hidden source_notes.hidden kept))

    joining : All → (from to : Normal) → Stands text (part w 0 t) w g from → Stands text (part w 0 t) w f to
        → Noted σ φ text (part w 0 t) w true notes g.visible g.visible_count f.visible f.visible_count
        → Joining σ φ text t w₁ places g grown from (taken_up from to)
    unfolding with_items
    joining all from to s z n =
        let size = kept.size in
        let few = x.absorbed.within in
        record {
          source = source_stands from s;
          target = target_stands all from to s z;
          visible_noted = visible_noted n;
          hidden_noted = hidden_noted all;
          tape = omega (arith, room);
          rows = room.equations;
          nodes = omega (arith, room);
          source_nodes = omega (arith, room);
          outside_source = outside_in (omega (arith, room)) room.outside;
          outside_parameters = inl (omega (arith, room));
          outside_visible = inl (omega (arith, room));
          outside_hidden = inl (omega (arith, room));
          outside_visible_notes = apart_in (omega (arith, room)) room.notes_rows;
          outside_hidden_notes = inr (omega (arith, room));
          enough = room.enough;
          few = room.few_equations;
        }

    -- ---- both

    module _ (r : Form) (w' : List ℕ) (e : out r w' ≡ joined text t w₁ g 0 g.equation_count places h) where
      joins : Grown places grown w₁ r w'
      joins =
          subst (λ (z : Out). Grown places grown w₁ z.form z.work) (ap (joined text t w₁ g 0 g.equation_count places) (sym x.form) ∙ sym e)
          (joined_grown places text t w₁ g 0 g.equation_count grown)

      -- the hidden rows stay while equations come in
      rows_stay : items_at text (part w' 0 t) w' r.hidden r.hidden_count ≡ items_at text (part w 0 t) w₁ f.hidden count
      unfolding with_items with_counts
      rows_stay =
          let base : r.hidden ≡ f.hidden = ap (λ (z : Form). z.hidden) joins.same in
          let many : r.hidden_count ≡ count = ap (λ (z : Form). z.hidden_count) joins.same in
          let tape = tape_kept_two {t = t} (omega (arith, room)) (omega (arith, room)) joins.kept in
          (λ i. items_at text ((tape ∙ tape_stays) i) w' (base i) (many i))
          ∙ items_same w₁ w' text (part w 0 t) f.hidden count
          (λ i u v. joins.kept.kept i (inl (omega (arith, room, x.absorbed.within))) (inl (omega (arith, room, x.absorbed.within))))

      both_kept : KeptTwo f.hidden (f.nodes + b.node_room) note note_end w w'
      unfolding with_items
      both_kept = record {
        size = joins.kept.size ∙ kept.size;
        kept = λ i p q.
            joins.kept.kept i (⊎_elim (λ u. inl (omega (arith, room))) (λ u. inr (omega (arith, room))) p)
            (⊎_elim (λ u. inl (omega (arith, room))) (λ u. inr (omega (arith, room))) p)
            ∙ kept.kept i (⊎_elim (λ u. inl (omega (arith, room))) (λ u. inr (omega (arith, room))) p) q;
      }

      visible_stays : visible_at text (part w' 0 t) w' r ≡ visible_at text (part w 0 t) w f
      unfolding visible_at with_items with_counts
      visible_stays =
          let tape = tape_kept_two room.tape note_behind both_kept in
          (λ i. visible_at text (tape i) w' (joins.same i))
          ∙ visible_same text (part w 0 t) w w' f (kept_two_same _ _ note note_end _ _ w w' (inl room.parameters) own_notes.parameters both_kept)
          (kept_two_same _ _ note note_end _ _ w w' (inl room.visible) own_notes.visible both_kept)

      pub hidden_united_within : HiddenUnitedWithin text t w m g f b notes cap r w'
      unfolding with_items with_counts hidden_onto within
      hidden_united_within =
          let many : r.hidden_count ≡ count = ap (λ (z : Form). z.hidden_count) joins.same in
          record {
            form = joins.same
                ∙ ap (λ (n : ℕ). with_counts (with_items f f.parameter_count f.visible_count n) r.equation_count r.node_count) (sym many);
            few = omega (arith, many, x.absorbed.within);
            equations = joins.few_equations room.few_equations;
            nodes = joins.few_nodes room.few_nodes;
            kept = both_kept;
            seen = visible_stays;
            items = λ from to s z. rows_stay ∙ x.absorbed.items ∙ ap (take cap) (come_up from to s z);
            stands = λ p from to s z n.
                subst (λ (y : Out). Stands text (part y.work 0 t) y.work y.form (record {
                  visible = to.visible;
                  hidden = within b.equation_room (hidden_onto σ φ to.hidden from.hidden);
                }))
                (ap (joined text t w₁ g 0 g.equation_count places) (sym x.form) ∙ sym e)
                (joined_stands σ φ text t w₁ places g grown from (taken_up from to)
                (joining (subst (λ (c : ℕ). (c < cap) ⊎ (f.hidden_count + g.hidden_count ≤ cap)) many p) from to s z n));
          }
