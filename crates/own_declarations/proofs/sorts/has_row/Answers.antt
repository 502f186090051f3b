-- `own_declarations::sorts::has_row` meets its contract.
-- Assumes nothing.
use Rattle.own_declarations.proofs.Cases.{cases}
use Rattle.own_declarations.proofs.sorts.has_row.Goals as goal

pub returns-then-is_row : goal.returns-then-is_row
returns-then-is_row c = search cases

pub loop-i-preserved : goal.loop-i-preserved
loop-i-preserved c = search cases

pub returns : goal.returns
returns c = search cases
