-- `unite_slots::has_slot` meets its contract.
-- Assumes nothing.
use Rattle.unite_slots.proofs.Cases.{seeks}
use Rattle.unite_slots.proofs.has_slot.Goals as goal

pub returns-then-same_slot : goal.returns-then-same_slot
returns-then-same_slot c = search seeks

pub loop-i-preserved : goal.loop-i-preserved
loop-i-preserved c = search seeks

pub returns : goal.returns
returns c = search seeks
