-- `read_entries::functions::read_function` meets its contract.
-- Assumes nothing.
use Rattle.read_steps.specs.Model.{function}
use Rattle.read_steps.proofs.Rules.{grammar}
use Rattle.read_entries.proofs.functions.read_function.Goals as goal

pub returns-then-next_is : goal.returns-then-next_is
unfolding function
returns-then-next_is c = search grammar

pub returns-then-next_is-2 : goal.returns-then-next_is-2
unfolding function
returns-then-next_is-2 c = search grammar

pub returns : goal.returns
unfolding function
returns c = search grammar
