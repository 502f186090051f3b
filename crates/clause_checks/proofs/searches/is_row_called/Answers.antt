-- `clause_checks::searches::is_row_called` meets its contract.
-- Assumes nothing.
use Rattle.clause_checks.proofs.RowSearches.{tests}
use Rattle.clause_checks.proofs.searches.is_row_called.Goals as goal

pub returns : goal.returns
returns c = search tests
