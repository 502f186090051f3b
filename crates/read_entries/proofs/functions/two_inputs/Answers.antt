-- `read_entries::functions::two_inputs` meets its contract.
-- Assumes nothing.
use Rattle.read_steps.specs.Model.{two_inputs}
use Rattle.read_steps.proofs.Rules.{grammar}
use Rattle.read_entries.proofs.functions.two_inputs.Goals as goal

pub returns : goal.returns
unfolding two_inputs
returns c = search grammar
