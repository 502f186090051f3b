-- `unite_equations::same_equation` meets its contract.
-- Assumes nothing.
use Rattle.unite_equations.proofs.Turns.{turns}
use Rattle.unite_equations.proofs.same_equation.Goals as goal

pub returns-then-q-r-3 : goal.returns-then-q-r-3
returns-then-q-r-3 c = search turns

pub returns-then-q-r-2 : goal.returns-then-q-r-2
returns-then-q-r-2 c = search turns

pub returns-then-q-r : goal.returns-then-q-r
returns-then-q-r c = search turns

pub returns : goal.returns
returns c = search turns
