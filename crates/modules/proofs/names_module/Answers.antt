-- `modules::names_module` meets its contract.
-- Assumes nothing.
use Rattle.meaning.specs.Lists.{pick}
use Rattle.modules.specs.Modules.{names_module}
use Rattle.form_rows.proofs.Auto.{tests}
use Rattle.modules.proofs.names_module.Goals as goal

pub returns-then-role-eq-IMPORT : goal.returns-then-role-eq-IMPORT
unfolding names_module pick
returns-then-role-eq-IMPORT c = search tests

pub returns-else-role-eq-IMPORT : goal.returns-else-role-eq-IMPORT
unfolding names_module pick
returns-else-role-eq-IMPORT c = search tests
