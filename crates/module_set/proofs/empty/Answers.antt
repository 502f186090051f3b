-- `module_set::empty` meets its contract.
-- Assumes nothing.
use Rattle.module_set.proofs.Cases.{cases}
use Rattle.module_set.proofs.empty.Goals as goal

pub returns : goal.returns
returns c = search cases
