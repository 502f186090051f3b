-- `clause_mistakes::bindings::pairs_right` meets its contract.
-- Assumes nothing.
use Rattle.clause_mistakes.proofs.BindingCases.{bindings}
use Rattle.clause_mistakes.proofs.bindings.pairs_right.Goals as goal

pub slice_bounds-pair_count-count : goal.slice_bounds-pair_count-count
slice_bounds-pair_count-count c = search bindings

pub slice_bounds-pair_count-start : goal.slice_bounds-pair_count-start
slice_bounds-pair_count-start c = search bindings

pub slice_bounds-pair_count-end : goal.slice_bounds-pair_count-end
slice_bounds-pair_count-end c = search bindings

pub loop-k-init : goal.loop-k-init
loop-k-init c = search bindings

pub pair_right-requires : goal.pair_right-requires
pair_right-requires c = search bindings

pub returns-in_err-pair_right : goal.returns-in_err-pair_right
returns-in_err-pair_right c = search bindings

pub loop-k-preserved : goal.loop-k-preserved
loop-k-preserved c = search (bindings, c.in_ok-pair_right.was)

pub returns : goal.returns
returns c = search bindings
