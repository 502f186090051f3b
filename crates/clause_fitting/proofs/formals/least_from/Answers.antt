-- `clause_fitting::formals::least_from` meets its contract.
-- Assumes nothing.
use Rattle.clause_fitting.proofs.FormalCases.{least}
use Rattle.clause_fitting.proofs.formals.least_from.Goals as goal

pub returns-then-is_unpaired : goal.returns-then-is_unpaired
returns-then-is_unpaired c = search least

pub returns : goal.returns
returns c = search least
