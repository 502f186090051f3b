-- `text_fetching::fetch` meets its contract.
-- Assumes nothing.
use Rattle.text_fetching.proofs.Cases.{cases}
use Rattle.text_fetching.proofs.fetch.Goals as goal

pub slice_bounds-result-count : goal.slice_bounds-result-count
slice_bounds-result-count c = search cases

pub slice_bounds-result-start : goal.slice_bounds-result-start
slice_bounds-result-start c = search cases

pub slice_bounds-result-end : goal.slice_bounds-result-end
slice_bounds-result-end c = search cases

pub returns-then-marked : goal.returns-then-marked
returns-then-marked c = search cases

pub slice_bounds-result-count-2 : goal.slice_bounds-result-count-2
slice_bounds-result-count-2 c = search cases

pub slice_bounds-result-start-2 : goal.slice_bounds-result-start-2
slice_bounds-result-start-2 c = search cases

pub slice_bounds-result-end-2 : goal.slice_bounds-result-end-2
slice_bounds-result-end-2 c = search cases

pub returns : goal.returns
returns c = search cases
