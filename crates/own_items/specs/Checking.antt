-- The checks of a module's own declarations one after the other (meaning/specs/Evaluate.antt), and what they leave of the memory.
use Rattle.std.specs.Prelude.{◌≡◌, List, ℕ, ◌+◌, ◌-◌, ◌*◌, ◌≤◌}
use Rattle.meaning.specs.Syntax.{Module}
use Rattle.meaning.specs.Normal.{Visible}
use Rattle.meaning.specs.Checks.{Check, ◌>>◌}
use Rattle.meaning.specs.Evaluate.{seen_sorts, joined_visible, own_checks}
use Rattle.form_rows.specs.Rows.{row_size}
use Rattle.form.specs.Memory.{part, Kept}
use Rattle.form.specs.Verdicts.{Verdict, told}
use Rattle.unite_checks.specs.Consistent.{Laid}
use Rattle.own_repeats.specs.Scans.{walked}
use Rattle.own_declarations.specs.Checked.{available_at, variable_at}
use Rattle.own_declarations.specs.ItemLaws.{FewInputs}
use Rattle.own_declarations.specs.declared.Own.{Own}
use Rattle.own_items.specs.declared.OwnRows.{OwnRows}
use Rattle.own_items.specs.Joined.{OwnStands}

-- the same module, with n rows
abbrev pub with_rows : Own → ℕ → Own
with_rows own n = record { from = own.from; end = own.end; rows = own.rows; count = n }

module _ (text tape w : List ℕ) (own : Own) (visible hidden : ℕ) where
  unfoldable pub variables_by : Check
  variables_by =
      walked (variable_at text tape w (with_rows own visible) (own.rows + visible * row_size) hidden) own.from (own.end - own.from)

  unfoldable pub declarations_by : Check
  declarations_by = walked (available_at text tape w own) own.from (own.end - own.from) >> variables_by

-- the rows behind n rows have a place
pub record RowsSmall (own : Own) (n : ℕ) : Type 0 where
  pub place : own.rows + n * row_size ≤ 2147483648

-- the imported rows are among the visible ones, and the order table lies behind the tape, apart from names and rows
pub record CheckRoom (size t : ℕ) (own : Own) (q : ℕ) (r : OwnRows) (p : ℕ) : Type 0 where
  pub imported : own.count ≤ r.visible_count
  pub place : own.rows + (r.visible_count + r.hidden_count) * row_size ≤ 2147483648
  pub laid : Laid size t q r.parameter_count own.rows (r.visible_count + r.hidden_count) p

pub record OwnChecked (text : List ℕ) (t : ℕ) (own : Own) (q : ℕ) (r : OwnRows) (p : ℕ) (w w' : List ℕ) (d : Verdict) : Type 0 where
  pub kept : Kept p (p + (r.parameter_count + (r.visible_count + r.hidden_count))) w w'
  pub verdict :
      (m : Module) (v : Visible) → OwnStands text (part w 0 t) w own q r m v → FewInputs m
      → told text d ≡ own_checks m (seen_sorts m v) (joined_visible m v)
