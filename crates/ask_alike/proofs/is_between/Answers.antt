-- `ask_alike::is_between` meets its contract.
-- Assumes nothing.
use Rattle.ask_alike.specs.Alike.{between}
use Rattle.laws_choices.specs.Choices.{choices}
use Rattle.ask_alike.proofs.is_between.Goals as goal

pub returns-then-first-role : goal.returns-then-first-role
unfolding between
returns-then-first-role c = search choices

pub returns-else-first-role : goal.returns-else-first-role
unfolding between
returns-else-first-role c = search choices
