-- `read_entries::functions::plain_type` meets its contract.
-- Assumes nothing.
use Rattle.read_steps.specs.Model.{function_by}
use Rattle.read_steps.proofs.Rules.{grammar}
use Rattle.read_entries.proofs.functions.plain_type.Goals as goal

pub returns : goal.returns
unfolding function_by
returns c = search grammar
