-- `unite_items::is_taken` meets its contract.
-- Assumes nothing.
use Rattle.form_rows.specs.Rows.{item_of}
use Rattle.unite_items.specs.Absorb.{taken}
use Rattle.laws_choices.specs.Choices.{choices}
use Rattle.unite_items.proofs.is_taken.Goals as goal

pub returns-then-in_parameter : goal.returns-then-in_parameter
unfolding taken item_of
returns-then-in_parameter c = search choices

pub returns-then-drop : goal.returns-then-drop
unfolding taken item_of
returns-then-drop c = search choices

pub returns : goal.returns
unfolding taken item_of
returns c = search choices
