-- What joining and checking leave is what the meaning has (meaning/specs/Evaluate.antt), and what stays while other words change.
use Rattle.std.specs.Prelude.{◌≡◌, ℕ, ◌+◌, ◌*◌, ◌≤◌}
use Rattle.std.proofs.Math.Path.{ap₂}
use Rattle.std.proofs.Common.{◌∙◌, inl, inr, ⊎_elim, arith}
use mathlib.Core.List.{List, ◌++◌}
use Rattle.meaning.specs.Lists.{union}
use Rattle.meaning.specs.Syntax.{Module}
use Rattle.meaning.specs.Origins.{Item, one_item}
use Rattle.meaning.specs.Normal.{Slot, Visible}
use Rattle.meaning.specs.Checks.{Check, ◌>>◌, consistent}
use Rattle.meaning.specs.Own.{own_visible, own_hidden_items}
use Rattle.meaning.specs.Evaluate.{seen_sorts, joined_visible, own_checks}
use Rattle.form_rows.specs.Rows.{row_size}
use Rattle.form.specs.Memory.{part, Kept}
use Rattle.form.specs.Forms.{slots_at, items_at, slot_size}
use Rattle.form.specs.FormLaws.{Apart, kept_same, tape_same, items_same, slots_same}
use Rattle.own_declarations.specs.DeclarationLaws.{Stands}
use Rattle.own_declarations.specs.ItemLaws.{FewInputs, visible_items}
use Rattle.own_declarations.specs.CheckLaws.{available_told}
use Rattle.own_declarations.specs.VariableLaws.{variables_told}
use Rattle.own_declarations.specs.Frames.{stands_same}
use Rattle.own_declarations.specs.declared.Own.{Own}
use Rattle.own_items.specs.declared.OwnRows.{OwnRows}
use Rattle.own_items.specs.Parameters.{SlotsAppended}
use Rattle.own_items.specs.ParameterLaws.{parameters_told}
use Rattle.own_items.specs.Joined.{Joined, OwnStands}
use Rattle.own_items.specs.Checking.{with_rows, declarations_by, variables_by}

-- ---- frames

module _ (text w w' : List ℕ) (t a e : ℕ) (k : Kept a e w w') (behind : t ≤ a) where
  pub tape_kept : part w' 0 t ≡ part w 0 t
  tape_kept = tape_same w w' t k.size (λ i h l. k.below i (omega arith))

  pub items_kept : (b c : ℕ) → Apart a e b (b + c * row_size) → items_at text (part w' 0 t) w' b c ≡ items_at text (part w 0 t) w b c
  items_kept b c h = rw tape_kept (items_same w w' text (part w 0 t) b c (kept_same a e b (b + c * row_size) w w' h k))

  pub stands_kept : (own : Own) (m : Module) (v : Visible) → Apart a e own.rows (own.rows + own.count * row_size)
      → Stands text (part w 0 t) w own m v → Stands text (part w' 0 t) w' own m v
  stands_kept own m v h s =
      rw tape_kept (stands_same text (part w 0 t) w w' own (kept_same a e own.rows (own.rows + own.count * row_size) w w' h k) m v s)

  pub own_stands_kept : (own : Own) (q : ℕ) (r : OwnRows) (m : Module) (v : Visible) → own.count ≤ r.visible_count
      → Apart a e q (q + r.parameter_count * slot_size) → Apart a e own.rows (own.rows + (r.visible_count + r.hidden_count) * row_size)
      → OwnStands text (part w 0 t) w own q r m v → OwnStands text (part w' 0 t) w' own q r m v
  own_stands_kept own q r m v few apart_names apart_rows s = record {
    imported = stands_kept own m v (narrower own.rows (own.count * row_size) (omega arith) (omega (arith, few))) s.imported;
    parameters = slots_same w w' text q r.parameter_count (kept_same a e q (q + r.parameter_count * slot_size) w w' apart_names k) ∙ s.parameters;
    visible = items_kept own.rows r.visible_count (narrower own.rows (r.visible_count * row_size) (omega arith) (omega arith)) ∙ s.visible;
    hidden = items_kept (own.rows + r.visible_count * row_size) r.hidden_count
        (narrower (own.rows + r.visible_count * row_size) (r.hidden_count * row_size) (omega arith) (omega arith))
        ∙ s.hidden;
  }
    where
      narrower : (b n : ℕ) → own.rows ≤ b → b + n ≤ own.rows + (r.visible_count + r.hidden_count) * row_size → Apart a e b (b + n)
      narrower b n h l = ⊎_elim (λ x. inl (omega arith)) (λ x. inr (omega arith)) apart_rows

-- ---- the meaning

module _ (text : List ℕ) (t : ℕ) (own : Own) (w : List ℕ) (m : Module) (v : Visible) (s : Stands text (part w 0 t) w own m v) where
  -- the own visible items joined are what the meaning has as visible
  pub visible_joined : (w' : List ℕ) (r : ℕ) → FewInputs m → Joined text t own own.rows own.count w w' r
      → items_at text (part w 0 t) w' own.rows r ≡ (joined_visible m v).items
  unfolding joined_visible
  visible_joined w' r few j =
      j.items ∙ ap₂ (λ (x y : List Item). union one_item x y) s.rows (visible_items text (part w 0 t) w own m v s few)

  pub parameters_joined : (w' : List ℕ) (q n r : ℕ) → slots_at text w q n ≡ v.parameters → SlotsAppended t own.from own.end q n w w' r
      → slots_at text w' q r ≡ (joined_visible m v).parameters
  unfolding joined_visible own_visible
  parameters_joined w' q n r e a = a.slots text ∙ ap₂ (λ (x y : List Slot). x ++ y) e (parameters_told text (part w 0 t) w own m v s)

-- 13 and then 12 by places and rows are the meaning's
pub declarations_told : (text tape w : List ℕ) (own : Own) (q : ℕ) (r : OwnRows) (m : Module) (v : Visible) → FewInputs m → OwnStands text tape w own q r m v
    → (c : Check) → c ≡ consistent (joined_visible m v) (own_hidden_items m (seen_sorts m v))
    → (c >> declarations_by text tape w own r.visible_count r.hidden_count) ≡ own_checks m (seen_sorts m v) (joined_visible m v)
unfolding declarations_by variables_by own_checks
declarations_told text tape w own q r m v few s c e =
    let all = with_rows own r.visible_count in
    let st : Stands text tape w all m (joined_visible m v) = record { end = s.imported.end; entries = s.imported.entries; rows = s.visible } in
    ap₂ (λ (x y : Check). x >> y) e
    (ap₂ (λ (x y : Check). x >> y) (available_told text tape w own m v s.imported few)
    (variables_told text tape w all m (joined_visible m v) st (own.rows + r.visible_count * row_size) r.hidden_count
    (own_hidden_items m (seen_sorts m v)) s.hidden))
