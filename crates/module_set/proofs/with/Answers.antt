-- `module_set::with` meets its contract.
-- Assumes nothing.
use Rattle.module_set.proofs.Cases.{cases}
use Rattle.module_set.proofs.with.Goals as goal

pub returns-then-k-ge64 : goal.returns-then-k-ge64
returns-then-k-ge64 c = search cases

pub returns : goal.returns
returns c = search cases
