-- What the actual form shows joins what is left: the room for its parameters and its items, what they are, and where each row went.
use Rattle.std.specs.Prelude.{◌≡◌, refl, ℕ, ◌+◌, ◌*◌, ◌≤◌, length}
use Rattle.std.proofs.Common.{sym, ◌∙◌, inl, inr, arith}
use Rattle.std.proofs.Math.Path.{ap, ap₂, subst, transport}
use Rattle.std.proofs.Math.Bool.{true, false}
use mathlib.Core.List.{List, ◌++◌, map}
use Rattle.meaning.specs.Lists.{pick, keep, union}
use Rattle.meaning.specs.Origins.{Item, one_item}
use Rattle.meaning.specs.Normal.{Visible, nothing_hidden, Normal, unite_visible, move_item}
use Rattle.text_names.specs.Word.{name_of}
use Rattle.form_rows.specs.Rows.{row_size}
use Rattle.form.specs.declared.Form.{Form}
use Rattle.form.specs.declared.Block.{Block}
use Rattle.form.specs.Memory.{part, Kept}
use Rattle.form.specs.Forms.{items_at, visible_at, Stands, slot_size}
use Rattle.form.specs.FormLaws.{Apart, kept_same, kept_two_same}
use Rattle.form_frames.specs.Changes.{onward, wider, around, apart_in, tape_kept, still_stands}
use Rattle.clause_translation.specs.declared.Mode.{Mode}
use Rattle.clause_pairs.specs.Pairs.{pairs_at}
use Rattle.clause_translation.specs.Translation.{sort_name, function_name, moved, moved_in}
use Rattle.clause_translation.specs.MovedLaws.{map_kept, moved_same, sort_name_same, function_name_same}
use Rattle.unite_items.specs.Absorb.{Absorbed, taken}
use Rattle.unite_items.specs.Turns.{Room}
use Rattle.unite_nodes.specs.Found.{Noted}
use Rattle.unite_nodes.specs.Pointed.{noted_stays}
use Rattle.unite.specs.Rooms.{SlotsRoom}
use Rattle.unite.specs.United.{empty_in, with_items, other_slots, SlotsUnited, VisibleUnited, SeenUnited, sorts, functions}
use Rattle.unite.specs.InBlock.{inside_as, outside_notes, outside_slots, outside_rows}
use Rattle.unite.specs.Noting.{all_noted}
use Rattle.unite.specs.Hiding.{keep_all, absorbed_all}
use Rattle.unite.specs.Showing.{slots_stand, visible_stands}
use Rattle.unite.specs.Whole.{sorts_stay, functions_stay}
use Rattle.clause_checks.specs.Notes.{NoteRoom, FormalsNoted}
use Rattle.clause.specs.Rooms.{as_is, OwnRoom, StepRoom, Seen}
use Rattle.clause.specs.Binding.{PairsRight, named_in, left_of, OwnBound, RowsBound, FrontBound}
use Rattle.clause.specs.Either.{NoteStep, NotesMade}
use Rattle.clause.specs.Places.{Laid, Counts, block_laid, mode_apart, own_step, InsideBlock}
use Rattle.clause.specs.OwnSteps.{first_kept, rows_kept, own_kept, own_form, own_few, own_slots, own_inside, own_stands}
use Rattle.clause.specs.ActualNotes.{StaysNoted, bound_noted}

-- ---- modes that leave all as it is

pub as_is_kind : (o : Mode) → o ≡ as_is → o.kind ≡ 0
unfolding as_is
as_is_kind o e = ap (λ (m : Mode). m.kind) e

pub as_is_apart : (low high : ℕ) (o : Mode) → o ≡ as_is → Apart low high o.visible (o.visible + o.count * row_size)
unfolding as_is
as_is_apart low high o e = rw e (inl (omega arith))

module _ (text tape tape' w w' : List ℕ) (o : Mode) (e : o ≡ as_is) where
  pub sorts_as_is : sort_name text tape w o ≡ sort_name text tape' w' as_is
  sorts_as_is = λ i a. (sort_name_same text tape w o (as_is_kind o e) a ∙ sym (sort_name_same text tape' w' as_is (as_is_kind as_is refl) a)) i

  pub functions_as_is : function_name text tape w o ≡ function_name text tape' w' as_is
  functions_as_is =
      λ i a t. (function_name_same text tape w o (as_is_kind o e) a t ∙ sym (function_name_same text tape' w' as_is (as_is_kind as_is refl) a t)) i

-- ---- step by step

pub rows_bound : (text : List ℕ) (t : ℕ) (w : List ℕ) (m : Mode) (g actual : Form) (b : Block) (own : Form) (w₂ : List ℕ) (o : Mode) (all : Form)
    (w₄ : List ℕ) → OwnBound text t w m g b own w₂ → o ≡ as_is → SeenUnited text t w₂ o actual own (b.visible_notes + 1024) all w₄
    → RowsBound text t w m g actual b all w₄
rows_bound text t w m g actual b own w₂ o all w₄ x plain y = record {
  own = own;
  left = w₂;
  first = x;
  named = y.named;
  between = y.between;
  parameters = y.parameters;
  rows = subst (λ (q : Mode). VisibleUnited text t y.between q false actual y.named (b.visible_notes + 1024) all w₄) plain y.rows;
}

module _ (text : List ℕ) (t : ℕ) (w : List ℕ) (m : Mode) (g actual : Form) (b : Block) (room : StepRoom (length w) t m g actual b) where
  abbrev mine : OwnRoom (length w) t m g b
  mine = own_step (length w) t m g actual b room

  abbrev laid : Laid (length w) t b
  laid = block_laid (length w) t b room.room.own.room

  abbrev fit : Counts g actual
  fit = (room.room.own.fits, room.room.fits)

  open b use {low, high, visible_notes as notes}

  table_apart : Apart low high m.visible (m.visible + m.count * row_size)
  table_apart = mode_apart (length w) t m g b mine

  module _ (own : Form) (w₂ : List ℕ) (x : OwnBound text t w m g b own w₂) where
    own_there : InsideBlock b own
    own_there = own_inside text t w m g b mine own w₂ x

    own_stays : Kept low high w w₂
    own_stays = own_kept text t w m g b mine own w₂ x

    few_slots : own.parameter_count ≤ g.parameter_count
    few_slots = own_slots text t w m g b mine own w₂ x

    few_items : own.visible_count ≤ g.visible_count
    few_items = own_few text t w m g b mine own w₂ x

    pub slots_room : SlotsRoom (length w₂) t actual own
    slots_room =
        let y = own_there.lies in
        let n = few_slots in
        let start : low ≤ own.parameters + own.parameter_count * slot_size = omega (arith, y, laid) in
        let end : own.parameters + (own.parameter_count + actual.parameter_count) * slot_size ≤ high = omega (arith, y, n, fit, laid) in
        record {
          tape = omega (arith, y, laid);
          few = omega (arith, n, fit);
          room = omega (arith, end, laid, own_stays.size);
          own_rows = inr (omega (arith, y, n, fit, laid));
          source = apart_in (record { first = start; last = end }) room.room.outside.parameters;
          source_rows = apart_in (record { first = start; last = end }) room.room.outside.visible;
        }

    pub actual_room : (o : Mode) → o ≡ as_is
        → Room (length w₂) t o actual.visible actual.visible_count own.visible own.visible_count (notes + 1024)
    actual_room o plain =
        let e = own_there.lies in
        let n = few_items in
        let s = own_stays.size in
        record {
          tape_table = omega (arith, e, fit, laid);
          tape_note = omega (arith, fit, laid);
          table = omega (arith, e, n, fit, laid, s);
          note = omega (arith, fit, laid, s);
          few = omega (arith, n, fit, laid);
          table_note = inr (omega (arith, e, n, fit, laid));
          table_source = apart_in (omega (arith, e, n, fit, laid)) room.room.outside.visible;
          note_source = apart_in (omega (arith, fit, laid)) room.room.outside.visible;
          table_mode = as_is_apart _ _ o plain;
          note_mode = as_is_apart _ _ o plain;
        }

    module _ (named : Form) (w₃ : List ℕ) (y : SlotsUnited text t w₂ actual own named w₃) where
      named_few : named.visible_count ≡ own.visible_count
      unfolding with_items
      named_few = ap (λ (z : Form). z.visible_count) y.form

      named_slots : named.parameter_count ≤ g.parameter_count + actual.parameter_count
      named_slots = omega (arith, y.few, few_slots)

      named_inside : InsideBlock b named
      named_inside =
          let i = own_there in
          subst (InsideBlock b) (sym y.form)
          (inside_as laid i _ _ _ (omega (arith, named_slots, fit)) i.visible i.hidden)

      slots_kept : Kept low high w₂ w₃
      slots_kept = wider (omega (arith, own_there.lies, few_slots, fit, laid)) y.kept

      named_kept : Kept low high w w₃
      named_kept = onward own_stays slots_kept

  -- ---- all of it

  module _ (all : Form) (w₄ : List ℕ) (both : RowsBound text t w m g actual b all w₄) where
    abbrev own : Form
    own = both.own

    abbrev named : Form
    named = both.named

    abbrev w₁ : List ℕ
    w₁ = both.first.between

    abbrev w₂ : List ℕ
    w₂ = both.left

    abbrev w₃ : List ℕ
    w₃ = both.between

    abbrev x : VisibleUnited text t w₁ m true g (named_in b both.first.count) notes own w₂
    x = both.first.rows

    abbrev y : VisibleUnited text t w₃ as_is false actual named (notes + 1024) all w₄
    y = both.rows

    there : InsideBlock b named
    there = named_inside own w₂ both.first named w₃ both.parameters

    few_own : own.visible_count ≤ g.visible_count
    few_own = few_items own w₂ both.first

    same_count : named.visible_count ≡ own.visible_count
    same_count = named_few own w₂ both.first named w₃ both.parameters

    three_kept : Kept low high w w₃
    three_kept = named_kept own w₂ both.first named w₃ both.parameters

    all_few : all.visible_count ≤ g.visible_count + actual.visible_count
    all_few = omega (arith, y.absorbed.few, same_count, few_own)

    all_inside : InsideBlock b all
    all_inside =
        subst (InsideBlock b) (sym y.form) (inside_as laid there _ _ _ there.parameters (omega (arith, all_few, fit)) there.hidden)

    last_kept : Kept low high w₃ w₄
    last_kept = around (omega (arith, there.lies, same_count, few_own, fit, laid)) (omega (arith, fit, laid)) y.absorbed.kept

    four_kept : Kept low high w w₄
    four_kept = onward three_kept last_kept

    note_room : NoteRoom (length w₄) t m all notes
    note_room =
        let c = room.mode.count in
        let e = all_inside.lies in
        record {
          tape = omega (arith, fit, laid);
          within = omega (arith, c, fit, laid, four_kept.size);
          table = apart_in (omega (arith, c, fit, laid)) table_apart;
          rows = inl (omega (arith, e, all_inside.visible, laid));
        }

    pub note_asked : NoteStep (length w₄) t m all notes
    note_asked = record { binds = λ k. note_room }

    module _ (w₅ : List ℕ) (made : NotesMade text t w₄ m all notes w₅) where
      z : FormalsNoted text (part w₄ 0 t) w₄ w₅ m all notes
      z = made.binds room.mode.kind

      formals_kept : Kept low high w₄ w₅
      formals_kept = wider (omega (arith, room.mode.count, fit, laid)) z.kept

      all_kept : Kept low high w w₅
      all_kept = onward four_kept formals_kept

      one_kept : Kept low high w w₁
      one_kept = first_kept text t w m g b mine own w₂ both.first

      -- from where the rows of g were taken up
      rows_all : Kept low high w₁ w₄
      rows_all =
          onward (onward (rows_kept text t w m g b mine own w₂ both.first) (slots_kept own w₂ both.first named w₃ both.parameters)) last_kept

      rows_last : Kept low high w₁ w₅
      rows_last = onward rows_all formals_kept

      tape_at : (v v' : List ℕ) → Kept low high v v' → part v' 0 t ≡ part v 0 t
      tape_at v v' k = tape_kept laid.tape k

      -- ---- what the form stands for

      -- the actual form stays
      seen_then : (w' : List ℕ) → Kept low high w w' → (a : Normal) → Stands text (part w 0 t) w actual a → visible_at text (part w' 0 t) w' actual ≡ a.visible
      seen_then w' k a u = (still_stands laid.tape k room.room.outside u).visible

      others_then : (w' : List ℕ) → Kept low high w w' → (a : Normal) → Stands text (part w 0 t) w actual a
          → items_at text (part w' 0 t) w' actual.visible actual.visible_count ≡ a.visible.items
      unfolding visible_at
      others_then w' k a u = ap (λ (v : Visible). v.items) (seen_then w' k a u)

      as_they_are : (others : List Item) → map (moved_in text (part w₃ 0 t) w₃ as_is true) others ≡ others
      as_they_are others =
          map_kept (moved_in text (part w₃ 0 t) w₃ as_is true) others (moved_same text (part w₃ 0 t) w₃ as_is (as_is_kind as_is refl) true)

      others_as_is : (others : List Item)
          → map (move_item (sorts text t w₃ as_is) (functions text t w₃ as_is)) (keep (taken text false as_is.parameter) others) ≡ others
      unfolding moved_in moved pick
      others_as_is others =
          ap (map (move_item (sorts text t w₃ as_is) (functions text t w₃ as_is))) (keep_all text as_is.parameter others) ∙ as_they_are others

      all_stands : (n a : Normal) → Stands text (part w 0 t) w g n → Stands text (part w 0 t) w actual a
          → Stands text (part w₅ 0 t) w₅ all (record { visible = unite_visible (left_of text t w m n.visible) a.visible; hidden = nothing_hidden })
      unfolding unite_visible other_slots
      all_stands n a s u =
          let e₂ = own_there own w₂ both.first in
          let e₃ = there in
          let n₂ = few_slots own w₂ both.first in
          let n₃ = few_own in
          let c = same_count in
          let lies₂ = e₂.lies in
          let lies₃ = e₃.lies in
          let s₂ = subst (λ (v : Visible). Stands text (part w₂ 0 t) w₂ own (record { visible = left_of text t w m v; hidden = nothing_hidden })) s.visible
          (own_stands text t w m g b mine own w₂ both.first) in
          let s₃ = slots_stand text t w₂ w₃ actual own named a.visible _ both.parameters (omega (arith, lies₂, laid))
          (outside_slots laid e₂ actual.parameter_count (omega (arith, n₂, fit)))
          (seen_then w₂ (own_stays own w₂ both.first) a u) s₂ in
          let s₄ = visible_stands text t w₃ w₄ as_is false actual named (notes + 1024) all y (omega (arith, lies₃, fit, laid)) (omega (arith, fit, laid)) _
          a.visible.items
          (outside_rows laid e₃ actual.visible_count (omega (arith, c, n₃, fit)))
          (outside_notes laid e₃ _ _ (omega arith)) s₃ (others_then w₃ three_kept a u) in
          let s₅ = still_stands {t = t} (omega (arith, fit, laid)) z.kept (outside_notes laid all_inside _ _ (omega arith)) s₄ in
          subst (λ (is : List Item). Stands text (part w₅ 0 t) w₅ all (record {
            visible = record {
              parameters = (left_of text t w m n.visible).parameters ++ other_slots (left_of text t w m n.visible) a.visible;
              items = union one_item (left_of text t w m n.visible).items is;
            };
            hidden = nothing_hidden;
          })) (others_as_is a.visible.items) s₅

      -- ---- where each row went

      base : all.visible ≡ (named_in b both.first.count).visible
      unfolding named_in with_items empty_in
      base = all_inside.lies.visible

      named_base : all.visible ≡ named.visible
      named_base = all_inside.lies.visible ∙ sym there.lies.visible

      own_absorbed : Absorbed text (part w₁ 0 t) w₁ m true true m.visible m.count all.visible (named_in b both.first.count).visible_count notes
          own.visible_count w₂
      own_absorbed =
          transport (λ i. Absorbed text (part w₁ 0 t) w₁ m true true (sym room.mode.table i) (sym room.mode.count i) (sym base i)
          (named_in b both.first.count).visible_count notes own.visible_count w₂) x.absorbed

      -- the actual items were joined to what was there
      actual_joined : (a : Normal) → Stands text (part w 0 t) w actual a
          → items_at text (part w₁ 0 t) w₄ all.visible all.visible_count
          ≡ union one_item (items_at text (part w₃ 0 t) w₃ named.visible named.visible_count) a.visible.items
      actual_joined a u =
          ap₂ (λ (tape : List ℕ) (i : ℕ). items_at text tape w₄ i all.visible_count) (tape_at w w₁ one_kept ∙ sym (tape_at w w₃ three_kept)) named_base
          ∙ absorbed_all text (part w₃ 0 t) w₃ as_is true actual.visible actual.visible_count named.visible named.visible_count (notes + 1024)
          all.visible_count w₄ _ a.visible.items y.absorbed refl (others_then w₃ three_kept a u)
          ∙ ap (union one_item _) (as_they_are a.visible.items)

      stays : StaysNoted w₁ w₂ w₄ w₅ m notes own.visible_count all
      stays =
          let c = room.mode.count in
          let e = (own_there own w₂ both.first).lies in
          let d = there.lies in
          let n = few_own in
          let k = few_slots own w₂ both.first in
          let q = same_count in
          let a = all_inside.lies in
          let grows = y.absorbed.grows in
          let slots_first = kept_same _ _ all.visible (all.visible + own.visible_count * row_size) w₂ w₃
          (inr (omega (arith, e, a, k, fit, laid))) both.parameters.kept in
          let rows_stay = kept_two_same _ _ _ _ all.visible (all.visible + own.visible_count * row_size) w₃ w₄
          (inl (omega (arith, d, a, q))) (inl (omega (arith, a, n, fit, laid))) y.absorbed.kept in
          let rows_left = kept_same _ _ all.visible (all.visible + all.visible_count * row_size) w₄ w₅
          (inl (omega (arith, a, all_inside, laid))) z.kept in
          let notes_first = kept_same _ _ notes (notes + m.count) w₂ w₃ (inr (omega (arith, e, k, fit, laid))) both.parameters.kept in
          let notes_then = kept_two_same _ _ _ _ notes (notes + m.count) w₃ w₄ (inr (omega (arith, d, q, n, fit, laid))) (inl (omega (arith, c, fit, laid)))
          y.absorbed.kept in
          record {
            table = kept_same low high _ _ w₁ w₄ table_apart rows_all;
            table_last = kept_same low high _ _ w₁ w₅ table_apart rows_last;
            notes_stay = λ i h l. notes_then i h l ∙ notes_first i h l;
            rows = λ i h l. rows_left i h (omega (arith, l, grows, q)) ∙ rows_stay i h l ∙ slots_first i h l;
            rows_last = rows_left;
          }

      own_noted : (n a : Normal) → Stands text (part w 0 t) w g n → Stands text (part w 0 t) w actual a
          → PairsRight (name_of text m.parameter) (pairs_at text (part w 0 t) m.pairs) n.visible a.visible
          → Noted (sorts text t w₅ m) (functions text t w₅ m) text (part w₅ 0 t) w₅ true notes g.visible g.visible_count
          all.visible all.visible_count
      unfolding visible_at
      own_noted n a s u pairs =
          let few : all.visible_count ≤ 65536 = omega (arith, all_few, fit) in
          let mine_then = (still_stands laid.tape one_kept room.room.own.outside s).visible in
          let table = ap₂ (items_at text (part w₁ 0 t) w₁) room.mode.table room.mode.count ∙ ap (λ (v : Visible). v.items) mine_then in
          let pass = subst (λ (tape : List ℕ). PairsRight (name_of text m.parameter) (pairs_at text tape m.pairs) n.visible a.visible)
          (sym (tape_at w w₁ one_kept)) pairs in
          let right = bound_noted text (part w₁ 0 t) w₁ w₂ w₄ w₅ m (named_in b both.first.count).visible_count notes own.visible_count all
          own_absorbed (subst (λ (c : ℕ). c ≤ all.visible_count) same_count y.absorbed.grows)
          (subst (λ (tape : List ℕ). FormalsNoted text tape w₄ w₅ m all notes) (tape_at w₁ w₄ rows_all) z) stays n.visible a.visible table
          room.mode.kind _ (actual_joined a u) pass.right pass.paired few in
          let same_sorts = sorts_stay text t w₁ w₅ m low high laid.tape rows_last table_apart in
          let same_functions = functions_stay text t w₁ w₅ m low high laid.tape rows_last table_apart in
          transport (λ i. Noted (sym same_sorts i) (sym same_functions i) text (sym (tape_at w₁ w₅ rows_last) i) w₅ true notes (room.mode.table i)
          (room.mode.count i) all.visible all.visible_count) right

      actual_noted : Noted (sorts text t w₅ as_is) (functions text t w₅ as_is) text (part w₅ 0 t) w₅ true (notes + 1024) actual.visible
          actual.visible_count all.visible all.visible_count
      actual_noted =
          let c = room.mode.count in
          let few : all.visible_count ≤ 65536 = omega (arith, all_few, fit) in
          let at = sorts_as_is text (part w₃ 0 t) (part w₅ 0 t) w₃ w₅ as_is refl in
          let by = functions_as_is text (part w₃ 0 t) (part w₅ 0 t) w₃ w₅ as_is refl in
          let right = all_noted text (part w₃ 0 t) w₃ as_is true actual.visible actual.visible_count named.visible named.visible_count
          (notes + 1024) all.visible_count w₄ y.absorbed few (kept_same low high _ _ w₃ w₄ room.room.outside.visible last_kept) in
          let last = noted_stays _ _ text (part w₃ 0 t) w₄ w₅ true (notes + 1024) actual.visible actual.visible_count
          named.visible all.visible_count
          (kept_same _ _ _ _ w₄ w₅ (inr (omega (arith, c, fit, laid))) z.kept)
          (kept_same low high _ _ w₄ w₅ room.room.outside.visible formals_kept)
          (kept_same _ _ _ _ w₄ w₅ (inl (omega (arith, there.lies, there, all_inside.lies, all_inside, fit, laid))) z.kept) right in
          transport (λ i. Noted (at i) (by i) text ((tape_at w w₃ three_kept ∙ sym (tape_at w w₅ all_kept)) i) w₅ true (notes + 1024) actual.visible
          actual.visible_count (sym named_base i) all.visible_count) last

      seen_now : Seen g actual b all
      unfolding with_items
      seen_now =
          let count : all.parameter_count ≡ named.parameter_count = ap (λ (u : Form). u.parameter_count) y.form in
          let more : Form → Form = λ u. with_items u named.parameter_count all.visible_count u.hidden_count in
          record {
            form = y.form ∙ ap more both.parameters.form ∙ ap more (own_form text t w m g b mine own w₂ both.first)
                ∙ ap (λ (c : ℕ). with_items (empty_in b) c all.visible_count 0) (sym count);
            parameters = omega (arith, count, named_slots own w₂ both.first named w₃ both.parameters);
            items = all_few;
          }

      pub front_bound : FrontBound text t w m g actual b all w₅
      front_bound = record {
        seen = seen_now;
        kept = all_kept;
        stands = all_stands;
        own_noted = own_noted;
        actual_noted = actual_noted;
      }
