-- `own_finding::find::is_such_variable` meets its contract.
-- Assumes nothing.
use Rattle.own_finding.proofs.Seeks.{tests}
use Rattle.own_finding.proofs.find.is_such_variable.Goals as goal

pub returns-then-same_word : goal.returns-then-same_word
returns-then-same_word c = search tests

pub returns : goal.returns
returns c = search tests
