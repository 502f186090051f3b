-- `list_order::comparing::equation_not_after` meets its contract. Assumes nothing.
use Rattle.list_order.proofs.CompareCases.{cases}
use Rattle.list_order.proofs.comparing.equation_not_after.Goals as goal

pub returns-then-x-y : goal.returns-then-x-y
returns-then-x-y c = search cases

pub returns : goal.returns
returns c = search cases
