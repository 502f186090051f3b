-- `read_entries::functions::read_function_name` meets its contract.
-- Assumes nothing.
use Rattle.read_steps.specs.Model.{function_name}
use Rattle.read_steps.proofs.Rules.{grammar}
use Rattle.read_entries.proofs.functions.read_function_name.Goals as goal

pub returns-then-next_is : goal.returns-then-next_is
unfolding function_name
returns-then-next_is c = search grammar

pub returns-then-next_is-2 : goal.returns-then-next_is-2
unfolding function_name
returns-then-next_is-2 c = search grammar

pub returns : goal.returns
unfolding function_name
returns c = search grammar
