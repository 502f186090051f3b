-- `read_equations::equations::equation_after` meets its contract.
-- Assumes nothing.
use Rattle.read_steps.specs.Model.{equation_after}
use Rattle.read_steps.proofs.Rules.{grammar}
use Rattle.read_equations.proofs.equations.equation_after.Goals as goal

pub returns-then-next_is : goal.returns-then-next_is
unfolding equation_after
returns-then-next_is c = search grammar

pub returns-then-next_is-2 : goal.returns-then-next_is-2
unfolding equation_after
returns-then-next_is-2 c = search grammar

pub returns : goal.returns
unfolding equation_after
returns c = search grammar
