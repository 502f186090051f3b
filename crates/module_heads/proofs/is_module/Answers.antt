-- `module_heads::is_module` meets its contract.
-- Assumes nothing.
use Rattle.modules.specs.Modules.{is_module}
use Rattle.form_rows.proofs.Auto.{tests}
use Rattle.module_heads.proofs.is_module.Goals as goal

pub returns : goal.returns
unfolding is_module
returns c = search tests
