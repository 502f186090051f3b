-- `own_declarations::sorts::declares_one` meets its contract.
-- Assumes nothing.
use Rattle.own_declarations.proofs.Cases.{cases}
use Rattle.own_declarations.proofs.sorts.declares_one.Goals as goal

pub returns-then-declares_at : goal.returns-then-declares_at
returns-then-declares_at c = search cases

pub loop-i-preserved : goal.loop-i-preserved
loop-i-preserved c = search cases

pub returns : goal.returns
returns c = search cases
