-- `clause_checks::renamings::wrong_renaming` meets its contract.
-- Assumes nothing.
use Rattle.clause_checks.proofs.RenamingCases.{renamings}
use Rattle.clause_checks.proofs.renamings.wrong_renaming.Goals as goal

pub slice_bounds-pair_count-count : goal.slice_bounds-pair_count-count
slice_bounds-pair_count-count c = search renamings

pub slice_bounds-pair_count-start : goal.slice_bounds-pair_count-start
slice_bounds-pair_count-start c = search renamings

pub slice_bounds-pair_count-end : goal.slice_bounds-pair_count-end
slice_bounds-pair_count-end c = search renamings

pub loop-k-init : goal.loop-k-init
loop-k-init c = search renamings

pub renames-requires : goal.renames-requires
renames-requires c = search renamings

pub loop-k-preserved : goal.loop-k-preserved
loop-k-preserved c = search renamings

pub slice_bounds-old_word-count : goal.slice_bounds-old_word-count
slice_bounds-old_word-count c = search renamings

pub slice_bounds-old_word-start : goal.slice_bounds-old_word-start
slice_bounds-old_word-start c = search renamings

pub slice_bounds-old_word-end : goal.slice_bounds-old_word-end
slice_bounds-old_word-end c = search renamings

pub returns-then-not-renames : goal.returns-then-not-renames
returns-then-not-renames c = search renamings

pub returns : goal.returns
returns c = search renamings
