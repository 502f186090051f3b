-- `modules::with_name` meets its contract.
-- Assumes nothing.
use Rattle.modules.proofs.Cases.{numbers}
use Rattle.modules.proofs.with_name.Goals as goal

pub returns-then-p-k : goal.returns-then-p-k
returns-then-p-k c = search numbers

pub returns : goal.returns
returns c = search numbers
