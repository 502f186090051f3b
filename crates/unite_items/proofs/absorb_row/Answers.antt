-- `unite_items::absorb_row` meets its contract.
-- Assumes nothing.
use Rattle.unite_items.proofs.Steps.{turn_place}
use borrow.Author.Rules.{rules}
use Rattle.unite_items.proofs.absorb_row.Goals as goal

pub take_row-requires : goal.take_row-requires
take_row-requires c = search (turn_place, rules)
