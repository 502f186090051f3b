-- `read_entries::imports::read_bound` meets its contract.
-- Assumes nothing.
use Rattle.read_steps.specs.Model.{bound}
use Rattle.read_steps.proofs.Rules.{grammar}
use Rattle.read_entries.proofs.imports.read_bound.Goals as goal

pub returns : goal.returns
unfolding bound
returns c = search grammar depth 8
