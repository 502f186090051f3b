-- `clause_fitting::formals::least_unpaired` meets its contract.
-- Assumes nothing.
use Rattle.clause_fitting.proofs.FormalCases.{lasts}
use Rattle.clause_fitting.proofs.formals.least_unpaired.Goals as goal

pub loop-k-init : goal.loop-k-init
loop-k-init c = search lasts

pub least_from-best-requires : goal.least_from-best-requires
least_from-best-requires c = search lasts

pub loop-k-preserved : goal.loop-k-preserved
loop-k-preserved c = search lasts

pub returns : goal.returns
returns c = search lasts
