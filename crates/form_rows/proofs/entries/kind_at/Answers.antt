-- `form_rows::entries::kind_at` meets its contract.
-- Assumes nothing.
use Rattle.form_rows.proofs.Scans.{kind_fits, kind_function, kind_variable, kind_sort}
use borrow.Author.Rules.{rules}
use Rattle.form_rows.proofs.entries.kind_at.Goals as goal

pub overflow_add-result : goal.overflow_add-result
overflow_add-result c = search (kind_fits, rules)

pub returns-then-is_function_role : goal.returns-then-is_function_role
returns-then-is_function_role c = search (kind_function, rules)

pub returns-then-role-eq-VARIABLE : goal.returns-then-role-eq-VARIABLE
returns-then-role-eq-VARIABLE c = search (kind_variable, rules)

pub returns : goal.returns
returns c = search (kind_sort, rules)
