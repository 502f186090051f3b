-- `unite_items::place_item` meets its contract.
-- Assumes nothing.
use Rattle.unite_items.proofs.Places.{places}
use Rattle.unite_items.proofs.place_item.Goals as goal

pub returns-then-at-n : goal.returns-then-at-n
returns-then-at-n c = search places

pub returns : goal.returns
returns c = search places
