-- `list_items::put_placed` meets its contract.
-- Assumes nothing.
use Rattle.list_items.specs.Parts.{placed_text}
use Rattle.list_items.proofs.Cases.{cases}
use Rattle.list_items.proofs.put_placed.Goals as goal

pub returns : goal.returns
unfolding placed_text
returns c = search cases
