-- `list_parts::put_hidden_items` meets its contract.
-- Assumes nothing.
use Rattle.list_parts.proofs.Cases.{cases}
use Rattle.list_parts.proofs.put_hidden_items.Goals as goal

pub loop-i-preserved : goal.loop-i-preserved
loop-i-preserved c = search cases

pub returns : goal.returns
returns c = search cases
