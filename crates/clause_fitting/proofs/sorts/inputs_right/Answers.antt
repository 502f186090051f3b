-- `clause_fitting::sorts::inputs_right` meets its contract.
-- Assumes nothing.
use Rattle.clause_fitting.proofs.SortCases.{fittings}
use Rattle.clause_fitting.proofs.sorts.inputs_right.Goals as goal

pub loop-i-init : goal.loop-i-init
loop-i-init c = search fittings

pub offset_bounds-sorts-i : goal.offset_bounds-sorts-i
offset_bounds-sorts-i c = search fittings

pub bounds-sorts-i : goal.bounds-sorts-i
bounds-sorts-i c = search fittings

pub sort_right-requires : goal.sort_right-requires
sort_right-requires c = search fittings

pub loop-i-preserved : goal.loop-i-preserved
loop-i-preserved c = search fittings

pub returns-then-not-sort_right : goal.returns-then-not-sort_right
returns-then-not-sort_right c = search fittings

pub returns : goal.returns
returns c = search fittings
