-- `unite_finding::find_item` meets its contract.
-- Assumes nothing.
use Rattle.unite_finding.proofs.Finds.{finds}
use Rattle.unite_finding.proofs.find_item.Goals as goal

pub returns-then-is_item : goal.returns-then-is_item
returns-then-is_item c = search finds

pub loop-i-preserved : goal.loop-i-preserved
loop-i-preserved c = search finds

pub returns : goal.returns
returns c = search finds
