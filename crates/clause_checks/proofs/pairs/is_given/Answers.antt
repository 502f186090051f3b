-- `clause_checks::pairs::is_given` meets its contract.
-- Assumes nothing.
use Rattle.clause_checks.proofs.PairCases.{looks}
use Rattle.clause_checks.proofs.pairs.is_given.Goals as goal

pub loop-j-init : goal.loop-j-init
loop-j-init c = search looks

pub returns-then-same_word : goal.returns-then-same_word
returns-then-same_word c = search looks

pub loop-j-preserved : goal.loop-j-preserved
loop-j-preserved c = search looks

pub returns : goal.returns
returns c = search looks
