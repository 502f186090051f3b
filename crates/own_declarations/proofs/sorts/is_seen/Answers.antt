-- `own_declarations::sorts::is_seen` meets its contract.
-- Assumes nothing.
use Rattle.own_declarations.specs.Sorts.{is_seen}
use Rattle.laws_choices.specs.Choices.{choices}
use Rattle.own_declarations.proofs.sorts.is_seen.Goals as goal

pub returns-then-has_row : goal.returns-then-has_row
unfolding is_seen
returns-then-has_row c = search choices

pub returns : goal.returns
unfolding is_seen
returns c = search choices
