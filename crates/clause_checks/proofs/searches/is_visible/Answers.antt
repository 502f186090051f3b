-- `clause_checks::searches::is_visible` meets its contract.
-- Assumes nothing.
use Rattle.clause_checks.proofs.RowSearches.{theres}
use Rattle.clause_checks.proofs.searches.is_visible.Goals as goal

pub returns : goal.returns
returns c = search theres
