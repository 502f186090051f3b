-- `clause_fitting::sorts::same_sort_origin` meets its contract.
-- Assumes nothing.
use Rattle.clause_fitting.proofs.SortCases.{origins}
use Rattle.clause_fitting.proofs.sorts.same_sort_origin.Goals as goal

pub returns-then-j-m : goal.returns-then-j-m
returns-then-j-m c = search origins

pub returns-then-i-n : goal.returns-then-i-n
returns-then-i-n c = search origins

pub returns-then-j-m-2 : goal.returns-then-j-m-2
returns-then-j-m-2 c = search origins

pub returns : goal.returns
returns c = search origins
