-- `list_pen::put_name` meets its contract.
-- Assumes nothing.
use Rattle.list_pen.proofs.Cases.{cases}
use Rattle.list_pen.proofs.put_name.Goals as goal

pub returns : goal.returns
returns c = search cases
