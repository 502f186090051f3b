-- `list_lines::put_hidden_item` meets its contract.
-- Assumes nothing.
use Rattle.list_lines.proofs.Cases.{cases}
use Rattle.list_lines.proofs.put_hidden_item.Goals as goal

pub returns : goal.returns
returns c = search cases
