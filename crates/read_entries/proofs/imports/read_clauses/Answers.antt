-- `read_entries::imports::read_clauses` meets its contract.
-- Assumes nothing.
use Rattle.read_steps.specs.Model.{optional, modified}
use Rattle.read_steps.proofs.Rules.{grammar}
use Rattle.read_entries.proofs.imports.read_clauses.Goals as goal

pub returns-then-next_is : goal.returns-then-next_is
unfolding optional modified
returns-then-next_is c = search grammar

pub returns : goal.returns
unfolding optional modified
returns c = search grammar
