-- `clause_fitting::sorts::name_right` meets its contract.
-- Assumes nothing.
use Rattle.clause_fitting.proofs.SortCases.{rights}
use Rattle.clause_fitting.proofs.sorts.name_right.Goals as goal

pub returns-then-is_formal_sort : goal.returns-then-is_formal_sort
returns-then-is_formal_sort c = search rights

pub returns : goal.returns
returns c = search rights
