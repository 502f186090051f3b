-- `read_entries::imports::some_bindings` meets its contract.
-- Assumes nothing.
use Rattle.read_steps.specs.Model.{some_of}
use Rattle.read_steps.proofs.Rules.{grammar}
use Rattle.read_entries.proofs.imports.some_bindings.Goals as goal

pub returns-then-next_is : goal.returns-then-next_is
unfolding some_of
returns-then-next_is c = search grammar

pub returns : goal.returns
unfolding some_of
returns c = search grammar
