-- `read_entries::declarations::read_enclosed` meets its contract.
-- Assumes nothing.
use Rattle.read_steps.specs.Model.{enclosed}
use Rattle.read_steps.proofs.Rules.{grammar}
use Rattle.read_entries.proofs.declarations.read_enclosed.Goals as goal

pub returns : goal.returns
unfolding enclosed
returns c = search grammar
