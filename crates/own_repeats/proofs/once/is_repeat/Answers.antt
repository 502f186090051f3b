-- `own_repeats::once::is_repeat` meets its contract.
-- Assumes nothing.
use Rattle.own_repeats.proofs.Cases.{cases}
use Rattle.own_repeats.proofs.once.is_repeat.Goals as goal

pub returns-then-repeats : goal.returns-then-repeats
returns-then-repeats c = search cases

pub loop-j-preserved : goal.loop-j-preserved
loop-j-preserved c = search cases

pub returns : goal.returns
returns c = search cases
