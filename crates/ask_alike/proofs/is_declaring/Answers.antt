-- `ask_alike::is_declaring` meets its contract.
-- Assumes nothing.
use Rattle.ask_alike.specs.Alike.{declaring}
use Rattle.laws_choices.specs.Choices.{choices}
use Rattle.ask_alike.proofs.is_declaring.Goals as goal

pub returns-then-is_between : goal.returns-then-is_between
unfolding declaring
returns-then-is_between c = search choices

pub returns-else-is_between : goal.returns-else-is_between
unfolding declaring
returns-else-is_between c = search choices
