-- `unite_items::take_row` meets its contract.
-- Assumes nothing.
use Rattle.unite_items.proofs.Steps.{turns}
use Rattle.unite_items.proofs.take_row.Goals as goal

pub returns-then-at-n : goal.returns-then-at-n
returns-then-at-n c = search turns

pub returns : goal.returns
returns c = search turns
