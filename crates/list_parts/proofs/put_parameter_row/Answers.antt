-- `list_parts::put_parameter_row` meets its contract.
-- Assumes nothing.
use Rattle.list_parts.proofs.Cases.{cases}
use Rattle.list_parts.proofs.put_parameter_row.Goals as goal

pub returns : goal.returns
returns c = search cases
