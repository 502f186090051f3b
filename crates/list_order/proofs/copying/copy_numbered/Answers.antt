-- `list_order::copying::copy_numbered` meets its contract. Assumes nothing.
use Rattle.list_order.proofs.CopyCases.{cases}
use Rattle.list_order.proofs.copying.copy_numbered.Goals as goal

pub copy_row-requires : goal.copy_row-requires
copy_row-requires c = search cases
