-- `own_items::joining::join_item` meets its contract.
-- Assumes nothing.
use Rattle.own_items.proofs.Joins.{joins}
use Rattle.own_items.proofs.joining.join_item.Goals as goal

pub returns-then-at-k : goal.returns-then-at-k
returns-then-at-k c = search joins

pub returns : goal.returns
returns c = search joins
