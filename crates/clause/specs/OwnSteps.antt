-- What is left of the form that is bound: the room for its parameters and its items, and what the form in the block stands for then.
use Rattle.std.specs.Prelude.{◌≡◌, ℕ, ◌+◌, ◌*◌, ◌≤◌, length}
use Rattle.std.proofs.Math.Path.{refl, ap, transport}
use Rattle.std.proofs.Common.{sym, ◌∙◌, subst, inr, arith}
use Rattle.std.proofs.Math.Bool.{true}
use mathlib.Core.List.{List, []}
use Rattle.meaning.specs.Lists.{pick}
use Rattle.meaning.specs.Normal.{nothing_visible, nothing_hidden, empty, move_visible}
use Rattle.meaning.specs.Clauses.{without_visible}
use Rattle.text_names.specs.Word.{name_of}
use Rattle.form_rows.specs.Rows.{row_size}
use Rattle.form.specs.declared.Form.{Form}
use Rattle.form.specs.declared.Block.{Block}
use Rattle.form.specs.Memory.{part, Kept}
use Rattle.form.specs.Forms.{slots_at, items_at, visible_at, Stands}
use Rattle.form.specs.Blocks.{Fits}
use Rattle.form.specs.FormLaws.{Apart}
use Rattle.form_frames.specs.Changes.{onward, wider, around, apart_in, items_kept}
use Rattle.clause_translation.specs.declared.Mode.{Mode}
use Rattle.unite_items.specs.Absorb.{taken}
use Rattle.unite_items.specs.Turns.{Room}
use Rattle.unite.specs.United.{empty_in, with_items, VisibleUnited}
use Rattle.unite.specs.Standing.{stands_more, empty_stands}
use Rattle.unite.specs.InBlock.{outside_notes, outside_rows}
use Rattle.unite.specs.Showing.{visible_stands}
use Rattle.unite.specs.Whole.{sorts_stay, functions_stay}
use Rattle.clause_checks.specs.KeptParameters.{but, KeepRoom, SlotsKept}
use Rattle.clause.specs.Rooms.{OwnRoom}
use Rattle.clause.specs.Binding.{named_in, left_of, OwnBound}
use Rattle.clause.specs.Places.{Laid, block_laid, mode_apart, InsideBlock, empty_inside}

module _ (text : List ℕ) (t : ℕ) (w : List ℕ) (m : Mode) (g : Form) (b : Block) (given : OwnRoom (length w) t m g b) where
  abbrev laid : Laid (length w) t b
  laid = block_laid (length w) t b given.room.room

  abbrev few : Fits g
  few = given.room.fits

  open b use {low, high, visible_notes as notes}

  table_apart : Apart low high m.visible (m.visible + m.count * row_size)
  table_apart = mode_apart (length w) t m g b given

  -- ---- room

  place : (e : Form) (n : ℕ) → e ≡ named_in b n → e.parameters ≡ b.parameters
  unfolding named_in with_items empty_in
  place e n h = ap (λ (z : Form). z.parameters) h

  pub keep_room : (e : Form) → e ≡ named_in b 0 → KeepRoom (length w) g.parameters g.parameter_count e.parameters
  keep_room e h =
      let at = place e 0 h in
      record {
        few = omega (arith, few);
        room = omega (arith, at, few, laid);
        apart = apart_in (omega (arith, at, few, laid)) given.room.outside.parameters;
      }

  named_inside : (n : ℕ) → n ≤ g.parameter_count → InsideBlock b (named_in b n)
  unfolding named_in
  named_inside n h = empty_inside b n 0 (omega (arith, few)) (omega arith)

  no_items : (n : ℕ) → (named_in b n).visible_count ≡ 0
  unfolding named_in with_items
  no_items n = refl

  module _ (e : Form) (n : ℕ) (w₁ : List ℕ) (h : e ≡ named_in b 0)
      (k : SlotsKept text w w₁ g.parameters g.parameter_count m.parameter e.parameters n) (f : Form) (l : f ≡ named_in b n) where
    pub own_room : Room (length w₁) t m g.visible g.visible_count f.visible f.visible_count notes
    own_room =
        let y = (subst (InsideBlock b) (sym l) (named_inside n k.few)).lies in
        let z = ap (λ (u : Form). u.visible_count) l ∙ no_items n in
        let s = k.kept.size in
        let source = given.room.outside.visible in
        record {
          tape_table = omega (arith, y, few, laid);
          tape_note = omega (arith, few, laid);
          table = omega (arith, y, z, few, laid, s);
          note = omega (arith, few, laid, s);
          few = omega (arith, z, few, laid);
          table_note = inr (omega (arith, y, z, few, laid));
          table_source = apart_in (omega (arith, y, z, few, laid)) source;
          note_source = apart_in (omega (arith, few, laid)) source;
          table_mode = apart_in (omega (arith, y, z, few, laid)) table_apart;
          note_mode = apart_in (omega (arith, few, laid)) table_apart;
        }

    pub own_bound : (own : Form) (w₂ : List ℕ) → VisibleUnited text t w₁ m true g f notes own w₂ → OwnBound text t w m g b own w₂
    own_bound own w₂ x = record {
      count = n;
      between = w₁;
      parameters = subst (λ (d : ℕ). SlotsKept text w w₁ g.parameters g.parameter_count m.parameter d n) (place e 0 h) k;
      rows = subst (λ (z : Form). VisibleUnited text t w₁ m true g z notes own w₂) l x;
    }

  -- ---- what is there then

  module _ (own : Form) (w₂ : List ℕ) (x : OwnBound text t w m g b own w₂) where
    abbrev w₁ : List ℕ
    w₁ = x.between

    abbrev first : Form
    first = named_in b x.count

    first_inside : InsideBlock b first
    first_inside = named_inside x.count x.parameters.few

    pub first_kept : Kept low high w w₁
    first_kept = wider (omega (arith, few, laid)) x.parameters.kept

    pub rows_kept : Kept low high w₁ w₂
    rows_kept =
        let y = first_inside.lies in
        let z = no_items x.count in
        around (omega (arith, y, z, few, laid)) (omega (arith, few, laid)) x.rows.absorbed.kept

    pub own_kept : Kept low high w w₂
    own_kept = onward first_kept rows_kept

    pub own_form : own ≡ with_items (empty_in b) x.count own.visible_count 0
    unfolding named_in with_items
    own_form = x.rows.form

    pub own_few : own.visible_count ≤ g.visible_count
    own_few = omega (arith, x.rows.absorbed.few, no_items x.count)

    pub own_slots : own.parameter_count ≤ g.parameter_count
    unfolding with_items
    own_slots = let e = ap (λ (z : Form). z.parameter_count) own_form in omega (arith, e, x.parameters.few)

    pub own_inside : InsideBlock b own
    own_inside =
        subst (InsideBlock b) (sym own_form)
        (empty_inside b x.count own.visible_count (omega (arith, few, x.parameters.few)) (omega (arith, few, own_few)))

    -- the items of g stay
    first_items : items_at text (part w₁ 0 t) w₁ g.visible g.visible_count ≡ items_at text (part w 0 t) w g.visible g.visible_count
    first_items = items_kept text g.visible g.visible_count laid.tape first_kept given.room.outside.visible

    -- ---- what the form stands for

    first_stands : Stands text (part w₁ 0 t) w₁ first (record {
      visible = record { parameters = but (name_of text m.parameter) (slots_at text w g.parameters g.parameter_count); items = [] };
      hidden = nothing_hidden;
    })
    unfolding named_in empty_in empty nothing_visible nothing_hidden items_at
    first_stands =
        stands_more text (part w₁ 0 t) w₁ (empty_in b) x.count 0 0 (omega arith) (omega arith) empty _ [] [] (empty_stands text (part w₁ 0 t) w₁ b)
        x.parameters.slots refl refl

    pub own_stands : Stands text (part w₂ 0 t) w₂ own (record { visible = left_of text t w m (visible_at text (part w 0 t) w g); hidden = nothing_hidden })
    unfolding left_of move_visible without_visible but visible_at taken pick
    own_stands =
        let y = first_inside.lies in
        let z = no_items x.count in
        let stood = visible_stands text t w₁ w₂ m true g first notes own x.rows (omega (arith, y, laid)) (omega (arith, laid)) _
        (items_at text (part w 0 t) w g.visible g.visible_count)
        (outside_rows laid first_inside g.visible_count (omega (arith, z, few)))
        (outside_notes laid first_inside _ _ (omega arith)) first_stands first_items in
        let same_sorts = sorts_stay text t w w₁ m low high laid.tape first_kept table_apart in
        let same_functions = functions_stay text t w w₁ m low high laid.tape first_kept table_apart in
        transport (λ i. Stands text (part w₂ 0 t) w₂ own (record {
          visible = move_visible (same_sorts i) (same_functions i) (without_visible (name_of text m.parameter) (visible_at text (part w 0 t) w g));
          hidden = nothing_hidden;
        })) stood
