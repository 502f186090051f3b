-- Laws of the notes of formal items, in the code's terms: the rows before k have been noted.
use mathlib.Core.Path.{◌≡◌, refl, sym, ap, ap₂, ◌∙◌}
use mathlib.Core.Logic.{inl, inr, ⊎_elim}
use Prim.Native.Nat.{ℕ, ◌+◌, ◌*◌, ◌≤◌, ◌<◌}
use mathlib.Core.Bool.{Bool, true, false, false≢true}
use mathlib.Core.List.{List}
use native.Mathlib.Omega.{arith}
use lib.Dec.{eqb}
use lib.ListN.{length, get_or, set}
use lib.Seq.{get_or-set_same, get_or-set_other}
use borrow.Author.Rules.{rules}
use borrow.Author.Tests.{eqb-true, eqb-false}
use Rattle.meaning.specs.Lists.{pick, before}
use Rattle.meaning.specs.Origins.{Item, in_parameter}
use Rattle.text_names.specs.Word.{name_of}
use Rattle.form_rows.specs.declared.Row.{Row}
use Rattle.form_rows.specs.Rows.{section_of, shape_of, item_of, row_at, row_size}
use Rattle.form_rows.specs.RowLaws.{row_same}
use Rattle.form.specs.declared.Form.{Form}
use Rattle.form.specs.Memory.{part, Kept}
use Rattle.form.specs.Forms.{items_at}
use Rattle.form.specs.FormLaws.{kept_all, kept_wider, kept_then, kept_set, kept_same, items_same, tape_same}
use Rattle.clause_translation.specs.declared.Mode.{Mode}
use Rattle.clause_translation.specs.Translation.{moved, moved_in}
use Rattle.clause_translation.specs.Moved.{MovedRow}
use Rattle.clause_translation.specs.MovedLaws.{moved_apart}
use Rattle.clause_checks.specs.Searches.{like}
use Rattle.clause_checks.specs.Notes.{mode_item, formal_row, moved_place, note_stored, NoteRoom, FormalsNoted}

-- ---- one row

pub place_told : (text tape w : List ℕ) (m : Mode) (y : Form) (x z : Row) (i : ℕ) → MovedRow text tape w m true x z
    → i ≡ before (like (name_of text z.name) (shape_of text tape z.kind z.sorts)) (items_at text tape w y.visible y.visible_count)
    → i ≡ moved_place text tape w m y (item_of text tape x)
unfolding moved_place moved_in item_of pick
place_told text tape w m y x z i h e =
    e ∙ ap (λ (j : Item). before (like j.name j.shape) (items_at text tape w y.visible y.visible_count)) h.item

module _ (text tape w : List ℕ) (m : Mode) (y : Form) (notes k : ℕ) (x : Row) (e : x ≡ row_at w (m.visible + k * row_size)) (b : Bool)
    (f : b ≡ in_parameter (name_of text m.parameter) (section_of text x.standing)) where
  pub note_other : b ≡ false → w ≡ note_stored text tape w m y notes k
  unfolding note_stored formal_row mode_item item_of pick
  note_other h = rw (← e, ← f, h)

  pub note_here : (i : ℕ) (w' : List ℕ) → b ≡ true → i ≡ moved_place text tape w m y (item_of text tape x) → w' ≡ set w (notes + k) i
      → w' ≡ note_stored text tape w m y notes k
  unfolding note_stored formal_row mode_item item_of pick
  note_here i w' h g l = rw (← e, ← f, h) (l ∙ ap (set w (notes + k)) g)

-- ---- all rows

module _ (text w₀ : List ℕ) (t : ℕ) (m : Mode) (y : Form) (notes : ℕ) where
  abbrev tape : List ℕ
  tape = part w₀ 0 t

  pub record Noting (w : List ℕ) (k : ℕ) : Type 0 where
    pub inside : k ≤ m.count
    pub kept : Kept notes (notes + m.count) w₀ w
    pub others : (j : ℕ) → j < m.count → formal_row text tape w₀ m j ≡ false → get_or w (notes + j) 0 ≡ get_or w₀ (notes + j) 0
    pub formals : (j : ℕ) → j < k → formal_row text tape w₀ m j ≡ true
        → get_or w (notes + j) 0 ≡ moved_place text tape w₀ m y (mode_item text tape w₀ m j)

  pub noting_start : Noting w₀ 0
  noting_start = record {
    inside = omega arith;
    kept = kept_all notes (notes + m.count) w₀;
    others = λ j h q. refl;
    formals = λ j h. absurd (omega arith);
  }

  pub noting_end : (w : List ℕ) (k : ℕ) → m.count ≤ k → Noting w k → FormalsNoted text tape w₀ w m y notes
  noting_end w k h inv = record {
    kept = inv.kept;
    others = inv.others;
    formals = λ j l q. inv.formals j (omega arith) q;
  }

  module _ (room : NoteRoom (length w₀) t m y notes) (w : List ℕ) (k : ℕ) (inv : Noting w k) where
    pub noting_tape : t ≤ length w
    noting_tape = omega (arith, room.tape, room.within, inv.kept.size)

    tape_stays : part w 0 t ≡ tape
    tape_stays = tape_same w₀ w t inv.kept.size (kept_same notes (notes + m.count) 0 t w₀ w (inl room.tape) inv.kept)

    item_stays : k < m.count → mode_item text (part w 0 t) w m k ≡ mode_item text tape w₀ m k
    unfolding mode_item
    item_stays h =
        ap₂ (item_of text) tape_stays
        (row_same w₀ w (m.visible + k * row_size) (kept_same notes (notes + m.count) (m.visible + k * row_size) (m.visible + k * row_size + row_size) w₀ w
        (⊎_elim (λ u. inl (omega arith)) (λ u. inr (omega arith)) room.table) inv.kept))

    formal_stays : k < m.count → formal_row text (part w 0 t) w m k ≡ formal_row text tape w₀ m k
    unfolding formal_row
    formal_stays h = ap (λ (i : Item). in_parameter (name_of text m.parameter) i.standing) (item_stays h)

    moved_stays : (i : Item) → moved text tape w m i ≡ moved text tape w₀ m i
    unfolding moved_in pick
    moved_stays i =
        moved_apart text tape w₀ w m
        (items_same w₀ w text tape m.visible m.count
        (kept_same notes (notes + m.count) m.visible (m.visible + m.count * row_size) w₀ w room.table inv.kept)) true i

    rows_stay : items_at text tape w y.visible y.visible_count ≡ items_at text tape w₀ y.visible y.visible_count
    rows_stay =
        items_same w₀ w text tape y.visible y.visible_count
        (kept_same notes (notes + m.count) y.visible (y.visible + y.visible_count * row_size) w₀ w room.rows inv.kept)

    place_stays : k < m.count
        → moved_place text (part w 0 t) w m y (mode_item text (part w 0 t) w m k) ≡ moved_place text tape w₀ m y (mode_item text tape w₀ m k)
    unfolding moved_place
    place_stays h = rw (item_stays h, tape_stays, moved_stays (mode_item text tape w₀ m k), rows_stay)

    -- what is stored changes no other note
    module _ (w' : List ℕ) (h : k < m.count) (v : ℕ) (l : w' ≡ set w (notes + k) v) where
      kept_now : Kept notes (notes + m.count) w₀ w'
      kept_now =
          rw l (kept_then notes (notes + m.count) w₀ w (set w (notes + k) v) inv.kept
          (kept_wider (notes + k) (notes + k + 1) notes (notes + m.count) w (set w (notes + k) v) (omega arith) (omega arith) (kept_set w (notes + k) v)))

      other_note : (j : ℕ) → (j ≡ k → ⊥) → get_or w' (notes + j) 0 ≡ get_or w (notes + j) 0
      other_note j q = rw l (get_or-set_other w (notes + k) (notes + j) v 0 (λ u. q (omega arith)))

      this_note : get_or w' (notes + k) 0 ≡ v
      this_note = rw l (get_or-set_same w (notes + k) v 0 (omega (arith, room.within, inv.kept.size)))

      noted_here : formal_row text tape w₀ m k ≡ true → v ≡ moved_place text tape w₀ m y (mode_item text tape w₀ m k) → Noting w' (k + 1)
      noted_here q g = record {
        inside = omega arith;
        kept = kept_now;
        others = λ j d r. other_note j (λ u. false≢true (sym r ∙ ap (formal_row text tape w₀ m) u ∙ q)) ∙ inv.others j d r;
        formals = λ j d r. at j d r (eqb j k) refl;
      }
        where
          at : (j : ℕ) → j < k + 1 → formal_row text tape w₀ m j ≡ true → (b : Bool) → eqb j k ≡ b
              → get_or w' (notes + j) 0 ≡ moved_place text tape w₀ m y (mode_item text tape w₀ m j)
          at j d r true u = let here : j ≡ k = eqb-true j k u in rw here (this_note ∙ g)
          at j d r false u = let other = eqb-false j k u in other_note j other ∙ inv.formals j (omega arith) r

    not_formal : k < m.count → formal_row text tape w₀ m k ≡ false → Noting w (k + 1)
    not_formal h q = record { inside = omega arith; kept = inv.kept; others = inv.others; formals = λ j d r. inv.formals j (earlier j d r (eqb j k) refl) r }
      where
        earlier : (j : ℕ) → j < k + 1 → formal_row text tape w₀ m j ≡ true → (b : Bool) → eqb j k ≡ b → j < k
        earlier j d r true u = absurd (false≢true (sym q ∙ ap (formal_row text tape w₀ m) (sym (eqb-true j k u)) ∙ r))
        earlier j d r false u = let other = eqb-false j k u in omega arith

    pub noting_again : (w' : List ℕ) → k < m.count → w' ≡ note_stored text (part w 0 t) w m y notes k → Noting w' (k + 1)
    unfolding note_stored pick
    noting_again w' h l = by (formal_row text (part w 0 t) w m k) refl
      where
        by : (b : Bool) → formal_row text (part w 0 t) w m k ≡ b → Noting w' (k + 1)
        by true q =
            let stored : w' ≡ set w (notes + k) (moved_place text (part w 0 t) w m y (mode_item text (part w 0 t) w m k)) = rw q at l in
            noted_here w' h (moved_place text (part w 0 t) w m y (mode_item text (part w 0 t) w m k)) stored (sym (formal_stays h) ∙ q) (place_stays h)
        by false q = let stays : w' ≡ w = rw q at l in rw stays (not_formal h (sym (formal_stays h) ∙ q))

pub ruleset notes = (place_told, note_other, note_here, rules)

pub ruleset notings = (noting_start, noting_tape, noting_again, noting_end, rules)
