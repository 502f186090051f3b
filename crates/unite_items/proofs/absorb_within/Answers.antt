-- `unite_items::absorb_within` meets its contract.
-- Assumes nothing.
use Rattle.unite_items.proofs.Loops.{loops}
use Rattle.unite_items.proofs.absorb_within.Goals as goal

pub loop-k-init : goal.loop-k-init
loop-k-init c = search loops

pub loop-k-preserved : goal.loop-k-preserved
loop-k-preserved c = search loops

pub returns-else-n-cap : goal.returns-else-n-cap
returns-else-n-cap c = search loops

pub returns : goal.returns
returns c = search loops
