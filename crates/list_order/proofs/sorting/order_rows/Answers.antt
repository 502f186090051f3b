-- `list_order::sorting::order_rows` meets its contract. Assumes nothing.
use Rattle.list_order.proofs.SortCases.{cases}
use Rattle.list_order.proofs.sorting.order_rows.Goals as goal

pub loop-r-init : goal.loop-r-init
loop-r-init c = search cases

pub returns : goal.returns
returns c = search cases
