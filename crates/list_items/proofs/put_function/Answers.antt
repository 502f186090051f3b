-- `list_items::put_function` meets its contract.
-- Assumes nothing.
use Rattle.list_items.proofs.Cases.{cases}
use Rattle.list_items.proofs.put_function.Goals as goal

pub returns : goal.returns
returns c = search cases
