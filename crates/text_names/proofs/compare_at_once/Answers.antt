-- `text_names::compare_at_once` meets its contract.
-- Assumes nothing.
use Rattle.text_names.proofs.AtOnce.{cases}
use Rattle.text_runs.specs.Codes.{seen_not}
use Rattle.text_names.proofs.compare_at_once.Goals as goal

pub slice_bounds-compare_names-end : goal.slice_bounds-compare_names-end
slice_bounds-compare_names-end c = search cases

pub slice_bounds-compare_names-end-then-are_plain : goal.slice_bounds-compare_names-end-then-are_plain
slice_bounds-compare_names-end-then-are_plain c = search cases

pub returns-then-are_plain : goal.returns-then-are_plain
returns-then-are_plain c = search cases

pub returns : goal.returns
returns c = seen_not _ _
