-- `own_repeats::once::declared_once` meets its contract.
-- Assumes nothing.
use Rattle.own_repeats.proofs.Cases.{cases}
use Rattle.own_repeats.proofs.once.declared_once.Goals as goal

pub returns-in_err-once_at : goal.returns-in_err-once_at
returns-in_err-once_at c = search cases

pub loop-i-preserved : goal.loop-i-preserved
loop-i-preserved c = search cases

pub returns : goal.returns
returns c = search cases
