-- `clause_translation::formals::is_formal_sort` meets its contract.
-- Assumes nothing.
use Rattle.clause_translation.proofs.FormalItems.{asks}
use Rattle.clause_translation.proofs.formals.is_formal_sort.Goals as goal

pub loop-i-init : goal.loop-i-init
loop-i-init c = search asks

pub returns-then-is_such_sort : goal.returns-then-is_such_sort
returns-then-is_such_sort c = search asks

pub loop-i-preserved : goal.loop-i-preserved
loop-i-preserved c = search asks

pub returns : goal.returns
returns c = search asks
