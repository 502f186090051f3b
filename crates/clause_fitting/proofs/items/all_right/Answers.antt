-- `clause_fitting::items::all_right` meets its contract.
-- Assumes nothing.
use Rattle.clause_fitting.proofs.ItemCases.{alls}
use Rattle.clause_fitting.proofs.items.all_right.Goals as goal

pub returns : goal.returns
returns c = search alls
