-- `list_items::put_names` meets its contract.
-- Assumes nothing.
use Rattle.list_items.proofs.Cases.{cases}
use Rattle.list_items.proofs.put_names.Goals as goal

pub returns-then-first-end : goal.returns-then-first-end
returns-then-first-end c = search cases

pub returns : goal.returns
returns c = search cases
