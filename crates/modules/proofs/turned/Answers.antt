-- `modules::turned` meets its contract.
-- Assumes nothing.
use Rattle.modules.proofs.Cases.{sets}
use Rattle.modules.proofs.turned.Goals as goal

pub returns-then-has : goal.returns-then-has
returns-then-has c = search sets

pub returns : goal.returns
returns c = search sets
