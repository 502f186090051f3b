-- `modules::name_of_module` meets its contract.
-- Assumes nothing.
use Rattle.modules.proofs.Cases.{heads}
use Rattle.modules.proofs.name_of_module.Goals as goal

pub returns : goal.returns
returns c = search heads
