-- `module_set::count` meets its contract.
-- Assumes nothing.
use Rattle.module_set.proofs.Cases.{cases}
use Rattle.module_set.proofs.count.Goals as goal

pub returns : goal.returns
returns c = search cases
