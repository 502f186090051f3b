-- `read_entries::imports::read_renamed` meets its contract.
-- Assumes nothing.
use Rattle.read_steps.specs.Model.{renamed}
use Rattle.read_steps.proofs.Rules.{grammar}
use Rattle.read_entries.proofs.imports.read_renamed.Goals as goal

pub returns : goal.returns
unfolding renamed
returns c = search grammar
