-- `modules::find_asked` meets its contract.
-- Assumes nothing.
use Rattle.modules.proofs.Cases.{numbers}
use Rattle.modules.proofs.find_asked.Goals as goal

pub loop-k-init : goal.loop-k-init
loop-k-init c = search numbers

pub returns-then-is_called : goal.returns-then-is_called
returns-then-is_called c = search numbers

pub loop-k-preserved : goal.loop-k-preserved
loop-k-preserved c = search numbers

pub returns : goal.returns
returns c = search numbers
