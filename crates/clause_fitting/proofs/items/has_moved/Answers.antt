-- `clause_fitting::items::has_moved` meets its contract.
-- Assumes nothing.
use Rattle.clause_fitting.proofs.ItemCases.{types}
use Rattle.clause_fitting.proofs.items.has_moved.Goals as goal

pub returns : goal.returns
returns c = search types
