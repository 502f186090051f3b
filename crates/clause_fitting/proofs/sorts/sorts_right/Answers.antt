-- `clause_fitting::sorts::sorts_right` meets its contract.
-- Assumes nothing.
use Rattle.clause_fitting.proofs.SortCases.{rights}
use Rattle.clause_fitting.proofs.sorts.sorts_right.Goals as goal

pub bounds-sorts-8 : goal.bounds-sorts-8
bounds-sorts-8 c = search rights

pub sort_right-requires : goal.sort_right-requires
sort_right-requires c = search rights

pub inputs_right-requires : goal.inputs_right-requires
inputs_right-requires c = search rights

pub returns-then-sort_right : goal.returns-then-sort_right
returns-then-sort_right c = search rights

pub returns : goal.returns
returns c = search rights
