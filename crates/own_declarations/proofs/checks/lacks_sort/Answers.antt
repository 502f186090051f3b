-- `own_declarations::checks::lacks_sort` meets its contract.
-- Assumes nothing.
use Rattle.own_declarations.proofs.Told.{checking}
use Rattle.own_declarations.proofs.checks.lacks_sort.Goals as goal

pub returns-then-is_function_role : goal.returns-then-is_function_role
returns-then-is_function_role c = search checking

pub returns-then-role-eq-VARIABLE : goal.returns-then-role-eq-VARIABLE
returns-then-role-eq-VARIABLE c = search checking

pub returns : goal.returns
returns c = search checking
