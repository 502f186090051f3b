-- `modules::find_number` meets its contract.
-- Assumes nothing.
use Rattle.modules.proofs.Cases.{numbers}
use Rattle.modules.proofs.find_number.Goals as goal

pub loop-k-init : goal.loop-k-init
loop-k-init c = search numbers

pub returns-then-same_name : goal.returns-then-same_name
returns-then-same_name c = search numbers

pub loop-k-preserved : goal.loop-k-preserved
loop-k-preserved c = search numbers

pub returns : goal.returns
returns c = search numbers
