-- `text_fetching::part_of` meets its contract.
-- Assumes nothing.
use Rattle.text_fetching.proofs.Cases.{cases}
use Rattle.text_fetching.proofs.part_of.Goals as goal

pub loop-left-init : goal.loop-left-init
loop-left-init c = search cases

pub slice_bounds-same_bytes-count : goal.slice_bounds-same_bytes-count
slice_bounds-same_bytes-count c = search cases

pub slice_bounds-same_bytes-start : goal.slice_bounds-same_bytes-start
slice_bounds-same_bytes-start c = search cases

pub slice_bounds-same_bytes-end : goal.slice_bounds-same_bytes-end
slice_bounds-same_bytes-end c = search cases

pub returns-then-same_bytes : goal.returns-then-same_bytes
returns-then-same_bytes c = search cases

pub loop-left-preserved : goal.loop-left-preserved
loop-left-preserved c = search cases

pub returns-else-kind : goal.returns-else-kind
returns-else-kind c = search cases

pub returns : goal.returns
returns c = search cases
