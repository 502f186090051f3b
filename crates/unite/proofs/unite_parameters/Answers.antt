-- `unite::unite_parameters` meets its contract.
-- Assumes nothing.
use Rattle.unite.proofs.Slots.{unitings}
use Rattle.unite.proofs.unite_parameters.Goals as goal

pub loop-k-init : goal.loop-k-init
loop-k-init c = search unitings

pub loop-k-preserved : goal.loop-k-preserved
loop-k-preserved c = search unitings

pub returns : goal.returns
returns c = search unitings
