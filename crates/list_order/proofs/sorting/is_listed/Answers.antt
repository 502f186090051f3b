-- `list_order::sorting::is_listed` meets its contract. Assumes nothing.
use Rattle.list_order.proofs.SortCases.{cases}
use Rattle.list_order.proofs.sorting.is_listed.Goals as goal

pub returns-in-Visible : goal.returns-in-Visible
returns-in-Visible c = search cases

pub returns-in-Sorts : goal.returns-in-Sorts
returns-in-Sorts c = search cases

pub returns-in-Hidden : goal.returns-in-Hidden
returns-in-Hidden c = search cases

pub returns-in-Equations : goal.returns-in-Equations
returns-in-Equations c = search cases
