-- `own_repeats::once::repeats` meets its contract.
-- Assumes nothing.
use Rattle.own_repeats.proofs.Cases.{cases}
use Rattle.own_repeats.proofs.once.repeats.Goals as goal

pub returns-then-same_name_at : goal.returns-then-same_name_at
returns-then-same_name_at c = search cases

pub returns-then-role_at : goal.returns-then-role_at
returns-then-role_at c = search cases

pub returns : goal.returns
returns c = search cases
