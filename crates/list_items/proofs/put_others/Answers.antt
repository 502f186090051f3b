-- `list_items::put_others` meets its contract.
-- Assumes nothing.
use Rattle.list_items.proofs.Cases.{cases}
use Rattle.list_items.proofs.put_others.Goals as goal

pub loop-i-preserved : goal.loop-i-preserved
loop-i-preserved c = search cases

pub returns : goal.returns
returns c = search cases
