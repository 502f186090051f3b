-- `own_declarations::sorts::is_inside` meets its contract.
-- Assumes nothing.
use Rattle.own_declarations.proofs.Cases.{cases}
use Rattle.own_declarations.proofs.sorts.is_inside.Goals as goal

pub returns-then-hidden_place-end : goal.returns-then-hidden_place-end
returns-then-hidden_place-end c = search cases

pub returns : goal.returns
returns c = search cases
