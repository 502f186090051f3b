-- `list_order::comparing::row_not_after` meets its contract. Assumes nothing.
use Rattle.list_order.proofs.CompareCases.{cases}
use Rattle.list_order.proofs.comparing.row_not_after.Goals as goal

pub returns-in-Visible : goal.returns-in-Visible
returns-in-Visible c = search cases

pub returns-in-Sorts : goal.returns-in-Sorts
returns-in-Sorts c = search cases

pub returns-in-Hidden : goal.returns-in-Hidden
returns-in-Hidden c = search cases

pub returns-in-Equations : goal.returns-in-Equations
returns-in-Equations c = search cases
