-- `list_order::sorting::find_place` meets its contract. Assumes nothing.
use Rattle.list_order.proofs.SortCases.{cases}
use Rattle.list_order.proofs.sorting.find_place.Goals as goal

pub loop-lo-preserved-then-comes_before : goal.loop-lo-preserved-then-comes_before
loop-lo-preserved-then-comes_before c = search cases

pub loop-lo-preserved : goal.loop-lo-preserved
loop-lo-preserved c = search cases
