-- `own_finding::find::find_function` meets its contract.
-- Assumes nothing.
use Rattle.own_finding.proofs.Seeks.{seeks}
use Rattle.own_finding.proofs.find.find_function.Goals as goal

pub returns-then-is_such_function : goal.returns-then-is_such_function
returns-then-is_such_function c = search seeks

pub loop-i-preserved : goal.loop-i-preserved
loop-i-preserved c = search seeks

pub returns : goal.returns
returns c = search seeks
