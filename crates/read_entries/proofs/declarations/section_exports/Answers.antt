-- `read_entries::declarations::section_exports` meets its contract.
-- Assumes nothing.
use Rattle.read_steps.specs.Model.{optional, exports}
use Rattle.read_steps.proofs.Rules.{grammar}
use Rattle.read_entries.proofs.declarations.section_exports.Goals as goal

pub returns-then-next_is : goal.returns-then-next_is
unfolding optional exports
returns-then-next_is c = search grammar

pub returns : goal.returns
unfolding optional exports
returns c = search grammar
