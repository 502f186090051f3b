-- `list_order::comparing::hidden_not_after` meets its contract. Assumes nothing.
use Rattle.list_order.proofs.CompareCases.{cases}
use Rattle.list_order.proofs.comparing.hidden_not_after.Goals as goal

pub returns-then-k-l : goal.returns-then-k-l
returns-then-k-l c = search cases

pub returns : goal.returns
returns c = search cases
