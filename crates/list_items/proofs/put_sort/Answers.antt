-- `list_items::put_sort` meets its contract.
-- Assumes nothing.
use Rattle.list_items.specs.Parts.{declared_sort_text}
use Rattle.list_items.proofs.Cases.{cases}
use Rattle.list_items.proofs.put_sort.Goals as goal

pub returns : goal.returns
unfolding declared_sort_text
returns c = search cases
