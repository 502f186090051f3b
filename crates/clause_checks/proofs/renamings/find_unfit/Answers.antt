-- `clause_checks::renamings::find_unfit` meets its contract.
-- Assumes nothing.
use Rattle.clause_checks.proofs.RowSearches.{finds}
use Rattle.clause_checks.proofs.renamings.find_unfit.Goals as goal

pub loop-i-init : goal.loop-i-init
loop-i-init c = search finds

pub slice_bounds-is_unfit-count : goal.slice_bounds-is_unfit-count
slice_bounds-is_unfit-count c = search finds

pub slice_bounds-is_unfit-start : goal.slice_bounds-is_unfit-start
slice_bounds-is_unfit-start c = search finds

pub slice_bounds-is_unfit-end : goal.slice_bounds-is_unfit-end
slice_bounds-is_unfit-end c = search finds

pub returns-then-is_unfit : goal.returns-then-is_unfit
returns-then-is_unfit c = search finds

pub loop-i-preserved : goal.loop-i-preserved
loop-i-preserved c = search finds

pub returns : goal.returns
returns c = search finds
