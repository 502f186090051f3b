-- `list_order::sorting::order_row` meets its contract. Assumes nothing.
use Rattle.list_order.proofs.SortCases.{cases}
use Rattle.list_order.proofs.sorting.order_row.Goals as goal

pub returns-then-is_listed : goal.returns-then-is_listed
returns-then-is_listed c = search cases

pub returns : goal.returns
returns c = search cases
