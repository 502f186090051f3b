-- `read_equations::equations::read_equation` meets its contract.
-- Assumes nothing.
use Rattle.read_steps.specs.Model.{equation}
use Rattle.read_steps.proofs.Rules.{grammar}
use Rattle.read_equations.proofs.Cases.{nodes_quiet}
use Rattle.read_equations.proofs.equations.read_equation.Goals as goal

pub returns : goal.returns
unfolding equation
returns c = search (nodes_quiet, grammar) depth 8
