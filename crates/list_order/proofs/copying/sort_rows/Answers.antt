-- `list_order::copying::sort_rows` meets its contract. Assumes nothing.
use Rattle.list_order.proofs.CopyCases.{cases}
use Rattle.list_order.proofs.copying.sort_rows.Goals as goal

pub returns : goal.returns
returns c = search cases
