-- `clause_checks::searches::has_function` meets its contract.
-- Assumes nothing.
use Rattle.clause_checks.proofs.RowSearches.{finds}
use Rattle.clause_checks.proofs.searches.has_function.Goals as goal

pub loop-i-init : goal.loop-i-init
loop-i-init c = search finds

pub slice_bounds-is_function_called-count : goal.slice_bounds-is_function_called-count
slice_bounds-is_function_called-count c = search finds

pub slice_bounds-is_function_called-start : goal.slice_bounds-is_function_called-start
slice_bounds-is_function_called-start c = search finds

pub slice_bounds-is_function_called-end : goal.slice_bounds-is_function_called-end
slice_bounds-is_function_called-end c = search finds

pub returns-then-is_function_called : goal.returns-then-is_function_called
returns-then-is_function_called c = search finds

pub loop-i-preserved : goal.loop-i-preserved
loop-i-preserved c = search finds

pub returns : goal.returns
returns c = search finds
