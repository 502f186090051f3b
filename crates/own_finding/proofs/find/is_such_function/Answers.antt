-- `own_finding::find::is_such_function` meets its contract.
-- Assumes nothing.
use Rattle.own_finding.proofs.Seeks.{tests}
use Rattle.own_finding.proofs.find.is_such_function.Goals as goal

pub returns-then-kind-lt-FUNCTION : goal.returns-then-kind-lt-FUNCTION
returns-then-kind-lt-FUNCTION c = search tests

pub returns-then-inputs_of-n : goal.returns-then-inputs_of-n
returns-then-inputs_of-n c = search tests

pub returns-then-same_word : goal.returns-then-same_word
returns-then-same_word c = search tests

pub returns : goal.returns
returns c = search tests
