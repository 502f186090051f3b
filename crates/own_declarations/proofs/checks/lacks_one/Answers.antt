-- `own_declarations::checks::lacks_one` meets its contract.
-- Assumes nothing.
use Rattle.own_declarations.proofs.Told.{checking}
use Rattle.own_declarations.proofs.checks.lacks_one.Goals as goal

pub returns-then-lacks : goal.returns-then-lacks
returns-then-lacks c = search checking

pub loop-j-preserved : goal.loop-j-preserved
loop-j-preserved c = search checking

pub returns : goal.returns
returns c = search checking
