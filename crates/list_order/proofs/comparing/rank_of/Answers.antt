-- `list_order::comparing::rank_of` meets its contract. Assumes nothing.
use Rattle.list_order.proofs.CompareCases.{cases}
use Rattle.list_order.proofs.comparing.rank_of.Goals as goal

pub returns-then-kind-eq-SORT : goal.returns-then-kind-eq-SORT
returns-then-kind-eq-SORT c = search cases

pub returns-then-kind-eq-VARIABLE : goal.returns-then-kind-eq-VARIABLE
returns-then-kind-eq-VARIABLE c = search cases

pub returns : goal.returns
returns c = search cases
