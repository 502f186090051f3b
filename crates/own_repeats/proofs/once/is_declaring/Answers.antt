-- `own_repeats::once::is_declaring` meets its contract.
-- Assumes nothing.
use Rattle.own_repeats.specs.Once.{is_declaring}
use Rattle.laws_choices.specs.Choices.{choices}
use Rattle.own_repeats.proofs.once.is_declaring.Goals as goal

pub returns-then-role-lt-PARAMETER : goal.returns-then-role-lt-PARAMETER
unfolding is_declaring
returns-then-role-lt-PARAMETER c = search choices

pub returns : goal.returns
unfolding is_declaring
returns c = search choices
