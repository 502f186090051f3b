-- `clause_fitting::formals::find_formal` meets its contract.
-- Assumes nothing.
use Rattle.clause_fitting.proofs.FormalCases.{finds}
use Rattle.clause_fitting.proofs.formals.find_formal.Goals as goal

pub loop-i-init : goal.loop-i-init
loop-i-init c = search finds

pub slice_bounds-is_formal_called-count : goal.slice_bounds-is_formal_called-count
slice_bounds-is_formal_called-count c = search finds

pub slice_bounds-is_formal_called-start : goal.slice_bounds-is_formal_called-start
slice_bounds-is_formal_called-start c = search finds

pub slice_bounds-is_formal_called-end : goal.slice_bounds-is_formal_called-end
slice_bounds-is_formal_called-end c = search finds

pub returns-then-is_formal_called : goal.returns-then-is_formal_called
returns-then-is_formal_called c = search finds

pub loop-i-preserved : goal.loop-i-preserved
loop-i-preserved c = search finds

pub returns : goal.returns
returns c = search finds
