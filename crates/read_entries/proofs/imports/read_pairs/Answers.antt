-- `read_entries::imports::read_pairs` meets its contract.
-- Assumes nothing.
use Rattle.read_steps.specs.Model.{pairs}
use Rattle.read_steps.proofs.Rules.{grammar}
use Rattle.read_entries.proofs.imports.read_pairs.Goals as goal

pub returns : goal.returns
unfolding pairs
returns c = search grammar
