-- `list_parts::put_parameter` meets its contract.
-- Assumes nothing.
use Rattle.list_parts.proofs.Cases.{cases}
use Rattle.list_parts.proofs.put_parameter.Goals as goal

pub returns : goal.returns
returns c = search cases
