-- `clause_checks::searches::has_sort` meets its contract.
-- Assumes nothing.
use Rattle.clause_checks.proofs.RowSearches.{theres}
use Rattle.clause_checks.proofs.searches.has_sort.Goals as goal

pub returns : goal.returns
returns c = search theres
