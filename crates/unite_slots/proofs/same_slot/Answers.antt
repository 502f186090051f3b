-- `unite_slots::same_slot` meets its contract.
-- Assumes nothing.
use Rattle.unite_slots.proofs.Cases.{slots}
use Rattle.unite_slots.proofs.same_slot.Goals as goal

pub returns-then-same_word : goal.returns-then-same_word
returns-then-same_word c = search slots

pub returns : goal.returns
returns c = search slots
