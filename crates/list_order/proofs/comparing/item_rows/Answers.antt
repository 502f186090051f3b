-- `list_order::comparing::item_rows` meets its contract. Assumes nothing.
use Rattle.list_order.proofs.CompareCases.{cases}
use Rattle.list_order.proofs.comparing.item_rows.Goals as goal

pub returns-in-Visible : goal.returns-in-Visible
returns-in-Visible c = search cases

pub returns-in-Sorts : goal.returns-in-Sorts
returns-in-Sorts c = search cases

pub returns-in-Hidden : goal.returns-in-Hidden
returns-in-Hidden c = search cases
