-- `own_declarations::checks::wrong_at` meets its contract.
-- Assumes nothing.
use Rattle.own_declarations.proofs.Told.{checking}
use Rattle.own_declarations.proofs.checks.wrong_at.Goals as goal

pub returns-then-first_named-i : goal.returns-then-first_named-i
returns-then-first_named-i c = search checking

pub returns-then-has_row : goal.returns-then-has_row
returns-then-has_row c = search checking

pub returns : goal.returns
returns c = search checking
