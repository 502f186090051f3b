-- `read_entries::declarations::section_sorts` meets its contract.
-- Assumes nothing.
use Rattle.read_steps.specs.Model.{optional}
use Rattle.meaning.specs.Numbers.{text_size}
use Rattle.read_steps.proofs.Rules.{grammar}
use Rattle.read_entries.proofs.declarations.section_sorts.Goals as goal

pub returns-then-next_is : goal.returns-then-next_is
unfolding optional text_size
returns-then-next_is c = search grammar

pub returns : goal.returns
unfolding optional text_size
returns c = search grammar
