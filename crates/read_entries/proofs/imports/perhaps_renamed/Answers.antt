-- `read_entries::imports::perhaps_renamed` meets its contract.
-- Assumes nothing.
use Rattle.read_steps.specs.Model.{perhaps_renamed}
use Rattle.read_steps.proofs.Rules.{grammar}
use Rattle.read_entries.proofs.imports.perhaps_renamed.Goals as goal

pub returns-then-next_is : goal.returns-then-next_is
unfolding perhaps_renamed
returns-then-next_is c = search grammar

pub returns : goal.returns
unfolding perhaps_renamed
returns c = search grammar
