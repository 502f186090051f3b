-- `read_entries::functions::prefix_type` meets its contract.
-- Assumes nothing.
use Rattle.read_steps.specs.Model.{function_by, one_input}
use Rattle.read_steps.proofs.Rules.{grammar}
use Rattle.read_entries.proofs.functions.prefix_type.Goals as goal

pub returns : goal.returns
unfolding function_by one_input
returns c = search grammar
