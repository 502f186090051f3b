-- `list_lines::put_rest` meets its contract.
-- Assumes nothing.
use Rattle.list_lines.proofs.Cases.{cases}
use Rattle.list_lines.proofs.put_rest.Goals as goal

pub returns : goal.returns
returns c = search cases
