-- `list_lines::put_visible_item` meets its contract.
-- Assumes nothing.
use Rattle.list_lines.proofs.Cases.{cases}
use Rattle.list_lines.proofs.put_visible_item.Goals as goal

pub returns : goal.returns
returns c = search cases
