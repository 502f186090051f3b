-- `list_items::put_marked` meets its contract.
-- Assumes nothing.
use Rattle.list_items.specs.Parts.{marked_name}
use Rattle.list_items.proofs.Cases.{cases}
use Rattle.list_items.proofs.put_marked.Goals as goal

pub returns : goal.returns
unfolding marked_name
returns c = search cases
