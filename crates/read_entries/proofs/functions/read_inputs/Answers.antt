-- `read_entries::functions::read_inputs` meets its contract.
-- Assumes nothing.
use Rattle.read_steps.specs.Model.{input_type}
use Rattle.read_steps.proofs.Rules.{grammar}
use Rattle.read_entries.proofs.functions.read_inputs.Goals as goal

pub returns-then-next_is : goal.returns-then-next_is
unfolding input_type
returns-then-next_is c = search grammar

pub returns : goal.returns
unfolding input_type
returns c = search grammar
