-- `clause_fitting::formals::lesser_name` meets its contract.
-- Assumes nothing.
use Rattle.clause_fitting.proofs.FormalCases.{least}
use Rattle.clause_fitting.proofs.formals.lesser_name.Goals as goal

pub returns-then-not_after : goal.returns-then-not_after
returns-then-not_after c = search least

pub returns-else-not_after : goal.returns-else-not_after
returns-else-not_after c = search least

pub returns-in-None : goal.returns-in-None
returns-in-None c = search least
