-- `read_entries::imports::read_import` meets its contract.
-- Assumes nothing.
use Rattle.read_steps.specs.Model.{import_expression}
use Rattle.read_steps.proofs.Rules.{grammar}
use Rattle.read_entries.proofs.imports.read_import.Goals as goal

pub returns : goal.returns
unfolding import_expression
returns c = search grammar
