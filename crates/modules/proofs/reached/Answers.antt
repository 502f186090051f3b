-- `modules::reached` meets its contract.
-- Assumes nothing.
use Rattle.modules.proofs.Cases.{sets}
use Rattle.modules.proofs.reached.Goals as goal

pub returns : goal.returns
returns c = search sets
