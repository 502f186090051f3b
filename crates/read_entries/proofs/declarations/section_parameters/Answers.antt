-- `read_entries::declarations::section_parameters` meets its contract.
-- Assumes nothing.
use Rattle.read_steps.specs.Model.{optional}
use Rattle.read_steps.proofs.Rules.{grammar}
use Rattle.read_entries.proofs.declarations.section_parameters.Goals as goal

pub returns-then-next_is : goal.returns-then-next_is
unfolding optional
returns-then-next_is c = search grammar

pub returns : goal.returns
unfolding optional
returns c = search grammar
