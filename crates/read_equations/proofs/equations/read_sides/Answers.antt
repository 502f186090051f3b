-- `read_equations::equations::read_sides` meets its contract.
-- Assumes nothing.
use Rattle.read_steps.specs.Model.{sides}
use Rattle.read_steps.proofs.Rules.{grammar}
use Rattle.read_equations.proofs.equations.read_sides.Goals as goal

pub returns : goal.returns
unfolding sides
returns c = search grammar
