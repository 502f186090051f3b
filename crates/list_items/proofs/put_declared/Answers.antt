-- `list_items::put_declared` meets its contract.
-- Assumes nothing.
use Rattle.list_items.proofs.Cases.{cases}
use Rattle.list_items.proofs.put_declared.Goals as goal

pub returns-then-is_function_role : goal.returns-then-is_function_role
returns-then-is_function_role c = search cases

pub returns-then-role-eq-VARIABLE : goal.returns-then-role-eq-VARIABLE
returns-then-role-eq-VARIABLE c = search cases

pub returns : goal.returns
returns c = search cases
