-- `form_comparing::sorts::same_shapes` meets its contract.
-- Assumes nothing.
use Rattle.form_comparing.proofs.Alike.{shapes_sort, shapes_no_sort, shapes_mixed, shapes_counts, shapes_told}
use borrow.Author.Rules.{rules}
use Rattle.form_comparing.proofs.sorts.same_shapes.Goals as goal

pub returns-then-k-eq-SORT : goal.returns-then-k-eq-SORT
returns-then-k-eq-SORT c = search (shapes_sort, rules)

pub returns-then-l-eq-SORT : goal.returns-then-l-eq-SORT
returns-then-l-eq-SORT c = search (shapes_no_sort, rules)

pub returns-then-k-l : goal.returns-then-k-l
returns-then-k-l c = search (shapes_mixed, rules)

pub returns-then-n-m : goal.returns-then-n-m
returns-then-n-m c = search (shapes_counts, rules)

pub returns : goal.returns
returns c = search (shapes_told, rules)
