-- `clause_checks::sorts::same_origin_at` meets its contract.
-- Assumes nothing.
use Rattle.clause_checks.proofs.RowSearches.{tests}
use Rattle.clause_checks.proofs.sorts.same_origin_at.Goals as goal

pub returns : goal.returns
returns c = search tests
