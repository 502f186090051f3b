-- `unite_equations::has_equation` meets its contract.
-- Assumes nothing.
use Rattle.unite_equations.proofs.Turns.{turns}
use Rattle.unite_equations.proofs.has_equation.Goals as goal

pub returns-then-is_equation : goal.returns-then-is_equation
returns-then-is_equation c = search turns

pub loop-i-preserved : goal.loop-i-preserved
loop-i-preserved c = search turns

pub returns : goal.returns
returns c = search turns
