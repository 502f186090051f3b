-- `clause_checks::searches::find_like` meets its contract.
-- Assumes nothing.
use Rattle.clause_checks.proofs.RowSearches.{finds}
use Rattle.clause_checks.proofs.searches.find_like.Goals as goal

pub loop-i-init : goal.loop-i-init
loop-i-init c = search finds

pub slice_bounds-is_like-count : goal.slice_bounds-is_like-count
slice_bounds-is_like-count c = search finds

pub slice_bounds-is_like-start : goal.slice_bounds-is_like-start
slice_bounds-is_like-start c = search finds

pub slice_bounds-is_like-end : goal.slice_bounds-is_like-end
slice_bounds-is_like-end c = search finds

pub returns-then-is_like : goal.returns-then-is_like
returns-then-is_like c = search finds

pub loop-i-preserved : goal.loop-i-preserved
loop-i-preserved c = search finds

pub returns : goal.returns
returns c = search finds
