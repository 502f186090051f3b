-- `read_entries::declarations::read_signature` meets its contract.
-- Assumes nothing.
use Rattle.read_steps.specs.Model.{signature}
use Rattle.read_steps.proofs.Rules.{grammar}
use Rattle.read_entries.proofs.declarations.read_signature.Goals as goal

pub returns : goal.returns
unfolding signature
returns c = search grammar
