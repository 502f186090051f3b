-- `unite_equations::settle` meets its contract.
-- Assumes nothing.
use Rattle.unite_equations.proofs.Turns.{turns}
use Rattle.unite_equations.proofs.settle.Goals as goal

pub returns-then-has_equation : goal.returns-then-has_equation
returns-then-has_equation c = search turns

pub returns : goal.returns
returns c = search turns
