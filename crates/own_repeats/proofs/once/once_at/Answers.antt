-- `own_repeats::once::once_at` meets its contract.
-- Assumes nothing.
use Rattle.own_repeats.proofs.Cases.{cases}
use Rattle.own_repeats.proofs.once.once_at.Goals as goal

pub returns-then-is_repeat : goal.returns-then-is_repeat
returns-then-is_repeat c = search cases

pub returns-then-is_declaring : goal.returns-then-is_declaring
returns-then-is_declaring c = search cases

pub returns : goal.returns
returns c = search cases
