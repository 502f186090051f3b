-- `list_order::copying::copy_rows` meets its contract. Assumes nothing.
use Rattle.list_order.proofs.CopyCases.{cases}
use Rattle.list_order.proofs.copying.copy_rows.Goals as goal

pub loop-i-preserved : goal.loop-i-preserved
loop-i-preserved c = search cases
