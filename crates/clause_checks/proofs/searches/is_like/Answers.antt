-- `clause_checks::searches::is_like` meets its contract.
-- Assumes nothing.
use Rattle.clause_checks.proofs.RowSearches.{tests}
use Rattle.clause_checks.proofs.searches.is_like.Goals as goal

pub returns-then-same_word : goal.returns-then-same_word
returns-then-same_word c = search tests

pub returns : goal.returns
returns c = search tests
