-- `own_declarations::checks::variable_at` meets its contract.
-- Assumes nothing.
use Rattle.own_declarations.proofs.Told.{checking}
use Rattle.own_declarations.proofs.checks.variable_at.Goals as goal

pub returns-then-wrong_at : goal.returns-then-wrong_at
returns-then-wrong_at c = search checking

pub returns-then-role_at-eq-VARIABLE : goal.returns-then-role_at-eq-VARIABLE
returns-then-role_at-eq-VARIABLE c = search checking

pub returns : goal.returns
returns c = search checking
