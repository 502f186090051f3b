-- `read_equations::equations::mark_by_next` meets its contract.
-- Assumes nothing.
use Rattle.read_steps.specs.Model.{by_next}
use Rattle.read_steps.proofs.Rules.{grammar}
use Rattle.read_equations.proofs.equations.mark_by_next.Goals as goal

pub returns-then-next_is : goal.returns-then-next_is
unfolding by_next
returns-then-next_is c = search grammar

pub returns-then-next_is-2 : goal.returns-then-next_is-2
unfolding by_next
returns-then-next_is-2 c = search grammar

pub returns : goal.returns
unfolding by_next
returns c = search grammar
