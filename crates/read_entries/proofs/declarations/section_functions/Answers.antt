-- `read_entries::declarations::section_functions` meets its contract.
-- Assumes nothing.
use Rattle.read_steps.specs.Model.{optional, some_of}
use Rattle.read_steps.proofs.Rules.{grammar}
use Rattle.read_entries.proofs.declarations.section_functions.Goals as goal

pub returns-then-begins_function : goal.returns-then-begins_function
unfolding optional some_of
returns-then-begins_function c = search grammar

pub returns-then-next_is : goal.returns-then-next_is
unfolding optional some_of
returns-then-next_is c = search grammar

pub returns : goal.returns
unfolding optional some_of
returns c = search grammar
