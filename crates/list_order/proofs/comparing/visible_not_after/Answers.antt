-- `list_order::comparing::visible_not_after` meets its contract. Assumes nothing.
use Rattle.list_order.proofs.CompareCases.{cases}
use Rattle.list_order.proofs.comparing.visible_not_after.Goals as goal

pub returns-then-is_eq : goal.returns-then-is_eq
returns-then-is_eq c = search cases

pub returns : goal.returns
returns c = search cases
