-- `clause_fitting::sorts::sort_right` meets its contract.
-- Assumes nothing.
use Rattle.clause_fitting.proofs.SortCases.{rights}
use Rattle.clause_fitting.proofs.sorts.sort_right.Goals as goal

pub returns-then-s-eq0 : goal.returns-then-s-eq0
returns-then-s-eq0 c = search rights

pub returns : goal.returns
returns c = search rights
