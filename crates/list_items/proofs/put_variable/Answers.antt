-- `list_items::put_variable` meets its contract.
-- Assumes nothing.
use Rattle.list_items.proofs.Cases.{cases}
use Rattle.list_items.proofs.put_variable.Goals as goal

pub returns : goal.returns
returns c = search cases
