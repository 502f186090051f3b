-- `clause_fitting::items::is_misfit` meets its contract.
-- Assumes nothing.
use Rattle.form_rows.specs.Rows.{item_of}
use Rattle.clause_fitting.specs.Fits.{misfit}
use Rattle.laws_choices.specs.Choices.{choices}
use Rattle.clause_fitting.proofs.items.is_misfit.Goals as goal

pub slice_bounds-is_formal_called-count : goal.slice_bounds-is_formal_called-count
unfolding misfit item_of
slice_bounds-is_formal_called-count c = search choices

pub slice_bounds-is_formal_called-start : goal.slice_bounds-is_formal_called-start
unfolding misfit item_of
slice_bounds-is_formal_called-start c = search choices

pub slice_bounds-is_formal_called-end : goal.slice_bounds-is_formal_called-end
unfolding misfit item_of
slice_bounds-is_formal_called-end c = search choices

pub item_right-requires : goal.item_right-requires
unfolding misfit item_of
item_right-requires c = search choices

pub returns-then-item_right : goal.returns-then-item_right
unfolding misfit item_of
returns-then-item_right c = search choices

pub returns-then-is_formal_called : goal.returns-then-is_formal_called
unfolding misfit item_of
returns-then-is_formal_called c = search choices

pub returns : goal.returns
unfolding misfit item_of
returns c = search choices
