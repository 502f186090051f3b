-- `list_parts::put_visible` meets its contract.
-- Assumes nothing.
use Rattle.list_parts.proofs.Cases.{cases}
use Rattle.list_parts.proofs.put_visible.Goals as goal

pub returns : goal.returns
returns c = search cases
