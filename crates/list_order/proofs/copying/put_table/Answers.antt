-- `list_order::copying::put_table` meets its contract. Assumes nothing.
use Rattle.list_order.proofs.CopyCases.{cases}
use Rattle.list_order.proofs.copying.put_table.Goals as goal

pub returns : goal.returns
returns c = search cases
