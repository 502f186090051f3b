-- `module_set::has` meets its contract.
-- Assumes nothing.
use Rattle.module_set.proofs.Cases.{cases}
use Rattle.module_set.proofs.has.Goals as goal

pub returns-then-k-lt64 : goal.returns-then-k-lt64
returns-then-k-lt64 c = search cases

pub returns : goal.returns
returns c = search cases
