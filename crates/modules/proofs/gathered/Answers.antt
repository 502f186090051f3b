-- `modules::gathered` meets its contract.
-- Assumes nothing.
use Rattle.modules.proofs.Cases.{sets}
use Rattle.modules.proofs.gathered.Goals as goal

pub loop-k-init : goal.loop-k-init
loop-k-init c = search sets

pub loop-k-preserved : goal.loop-k-preserved
loop-k-preserved c = search sets

pub returns : goal.returns
returns c = search sets
