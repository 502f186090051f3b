-- `own_declarations::sorts::declares_at` meets its contract.
-- Assumes nothing.
use Rattle.own_declarations.specs.Sorts.{declares_at}
use Rattle.laws_choices.specs.Choices.{choices}
use Rattle.own_declarations.proofs.sorts.declares_at.Goals as goal

pub returns-then-is_named : goal.returns-then-is_named
unfolding declares_at
returns-then-is_named c = search choices

pub returns : goal.returns
unfolding declares_at
returns c = search choices
