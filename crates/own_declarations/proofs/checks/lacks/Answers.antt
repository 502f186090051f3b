-- `own_declarations::checks::lacks` meets its contract.
-- Assumes nothing.
use Rattle.own_declarations.proofs.Told.{checking}
use Rattle.own_declarations.proofs.checks.lacks.Goals as goal

pub returns-then-is_inside : goal.returns-then-is_inside
returns-then-is_inside c = search checking

pub returns-then-hidden : goal.returns-then-hidden
returns-then-hidden c = search checking

pub returns-then-is_seen : goal.returns-then-is_seen
returns-then-is_seen c = search checking

pub returns : goal.returns
returns c = search checking
