-- `clause_translation::formals::is_formal_function` meets its contract.
-- Assumes nothing.
use Rattle.clause_translation.proofs.FormalItems.{asks}
use Rattle.clause_translation.proofs.formals.is_formal_function.Goals as goal

pub loop-i-init : goal.loop-i-init
loop-i-init c = search asks

pub is_such_function-requires : goal.is_such_function-requires
is_such_function-requires c = search asks

pub returns-then-is_such_function : goal.returns-then-is_such_function
returns-then-is_such_function c = search asks

pub loop-i-preserved : goal.loop-i-preserved
loop-i-preserved c = search asks

pub returns : goal.returns
returns c = search asks
