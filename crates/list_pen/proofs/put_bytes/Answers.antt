-- `list_pen::put_bytes` meets its contract.
-- Assumes nothing.
use Rattle.list_pen.proofs.Cases.{cases}
use Rattle.list_pen.proofs.put_bytes.Goals as goal

pub loop-byte-preserved : goal.loop-byte-preserved
loop-byte-preserved c = search cases

pub returns : goal.returns
returns c = search cases
