-- `own_finding::find::find_variable` meets its contract.
-- Assumes nothing.
use Rattle.own_finding.proofs.Seeks.{seeks}
use Rattle.own_finding.proofs.find.find_variable.Goals as goal

pub returns-then-is_such_variable : goal.returns-then-is_such_variable
returns-then-is_such_variable c = search seeks

pub loop-i-preserved : goal.loop-i-preserved
loop-i-preserved c = search seeks

pub returns : goal.returns
returns c = search seeks
