-- `read_equations::equations::read_conditional` meets its contract.
-- Assumes nothing.
use Rattle.read_steps.specs.Model.{conditional, optional}
use Rattle.read_steps.proofs.Rules.{grammar}
use Rattle.read_equations.proofs.equations.read_conditional.Goals as goal

pub returns-then-next_is : goal.returns-then-next_is
unfolding conditional optional
returns-then-next_is c = search grammar

pub returns : goal.returns
unfolding conditional optional
returns c = search grammar
