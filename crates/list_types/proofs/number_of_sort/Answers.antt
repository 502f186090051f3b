-- `list_types::number_of_sort` meets its contract.
-- Assumes nothing.
use Rattle.list_types.proofs.Cases.{cases}
use Rattle.list_types.proofs.number_of_sort.Goals as goal

pub returns-then-is_sort_row : goal.returns-then-is_sort_row
returns-then-is_sort_row c = search cases

pub loop-i-preserved : goal.loop-i-preserved
loop-i-preserved c = search cases

pub returns : goal.returns
returns c = search cases
