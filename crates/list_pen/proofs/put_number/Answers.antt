-- `list_pen::put_number` meets its contract.
-- Assumes nothing.
use Rattle.list_pen.proofs.Cases.{cases}
use Rattle.list_pen.proofs.put_number.Goals as goal

pub returns : goal.returns
returns c = search cases
