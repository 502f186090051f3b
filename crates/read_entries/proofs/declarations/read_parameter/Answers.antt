-- `read_entries::declarations::read_parameter` meets its contract.
-- Assumes nothing.
use Rattle.read_steps.specs.Model.{parameter}
use Rattle.read_steps.proofs.Rules.{grammar}
use Rattle.read_entries.proofs.declarations.read_parameter.Goals as goal

pub returns : goal.returns
unfolding parameter
returns c = search grammar
