-- `read_entries::functions::infix_operator` meets its contract.
-- Assumes nothing.
use Rattle.read_steps.specs.Model.{infix_operator}
use Rattle.read_steps.proofs.Rules.{grammar}
use Rattle.read_entries.proofs.functions.infix_operator.Goals as goal

pub returns : goal.returns
unfolding infix_operator
returns c = search grammar
