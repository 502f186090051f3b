-- `clause_checks::searches::is_sort_called` meets its contract.
-- Assumes nothing.
use Rattle.clause_checks.proofs.RowSearches.{tests}
use Rattle.clause_checks.proofs.searches.is_sort_called.Goals as goal

pub returns-then-kind-eq-SORT : goal.returns-then-kind-eq-SORT
returns-then-kind-eq-SORT c = search tests

pub returns : goal.returns
returns c = search tests
