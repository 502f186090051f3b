-- `clause_checks::pairs::paired_word` meets its contract.
-- Assumes nothing.
use Rattle.clause_checks.proofs.PairCases.{pairings}
use Rattle.clause_checks.proofs.pairs.paired_word.Goals as goal

pub loop-k-init : goal.loop-k-init
loop-k-init c = search pairings

pub returns-then-same_word : goal.returns-then-same_word
returns-then-same_word c = search pairings

pub loop-k-preserved : goal.loop-k-preserved
loop-k-preserved c = search pairings

pub returns : goal.returns
returns c = search pairings
