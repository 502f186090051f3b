-- `read_entries::imports::read_modifier` meets its contract.
-- Assumes nothing.
use Rattle.read_steps.specs.Model.{modifier}
use Rattle.read_steps.proofs.Rules.{grammar}
use Rattle.read_entries.proofs.imports.read_modifier.Goals as goal

pub returns-then-next_is : goal.returns-then-next_is
unfolding modifier
returns-then-next_is c = search grammar

pub returns : goal.returns
unfolding modifier
returns c = search grammar
