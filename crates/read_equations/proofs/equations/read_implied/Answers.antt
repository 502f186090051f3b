-- `read_equations::equations::read_implied` meets its contract.
-- Assumes nothing.
use Rattle.read_steps.specs.Model.{implied}
use Rattle.read_steps.proofs.Rules.{grammar}
use Rattle.read_equations.proofs.equations.read_implied.Goals as goal

pub returns : goal.returns
unfolding implied
returns c = search grammar
