-- `list_lines::put_line` meets its contract.
-- Assumes nothing.
use Rattle.list_lines.proofs.Cases.{cases}
use Rattle.list_lines.proofs.put_line.Goals as goal

pub returns : goal.returns
returns c = search cases
