-- `read_entries::imports::read_pair` meets its contract.
-- Assumes nothing.
use Rattle.read_steps.specs.Model.{pair}
use Rattle.read_steps.proofs.Rules.{grammar}
use Rattle.read_entries.proofs.imports.read_pair.Goals as goal

pub returns : goal.returns
unfolding pair
returns c = search grammar
