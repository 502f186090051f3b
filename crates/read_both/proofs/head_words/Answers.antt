-- `read_both::head_words` meets its contract.
-- Assumes nothing.
use Rattle.read_both.proofs.Cases.{cases}
use Rattle.read_both.proofs.head_words.Goals as goal

pub loop-k-init : goal.loop-k-init
loop-k-init c = search cases

pub bounds-h-k : goal.bounds-h-k
bounds-h-k c = search cases

pub loop-k-preserved : goal.loop-k-preserved
loop-k-preserved c = search cases

pub returns : goal.returns
returns c = search cases
