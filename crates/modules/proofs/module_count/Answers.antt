-- `modules::module_count` meets its contract.
-- Assumes nothing.
use Rattle.modules.proofs.Cases.{heads}
use Rattle.modules.proofs.module_count.Goals as goal

pub returns : goal.returns
returns c = search heads
