-- `own_declarations::sorts::first_named` meets its contract.
-- Assumes nothing.
use Rattle.own_declarations.proofs.Cases.{cases}
use Rattle.own_declarations.proofs.sorts.first_named.Goals as goal

pub returns-then-is_named : goal.returns-then-is_named
returns-then-is_named c = search cases

pub loop-i-preserved : goal.loop-i-preserved
loop-i-preserved c = search cases

pub returns : goal.returns
returns c = search cases
