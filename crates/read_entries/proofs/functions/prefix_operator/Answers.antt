-- `read_entries::functions::prefix_operator` meets its contract.
-- Assumes nothing.
use Rattle.read_steps.specs.Model.{prefix_operator}
use Rattle.read_steps.proofs.Rules.{grammar}
use Rattle.read_entries.proofs.functions.prefix_operator.Goals as goal

pub returns : goal.returns
unfolding prefix_operator
returns c = search grammar
