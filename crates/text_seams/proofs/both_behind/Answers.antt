-- `text_seams::both_behind` meets its contract.
-- Assumes nothing.
use Rattle.text_seams.proofs.Rooms.{cases}
use Rattle.text_seams.proofs.both_behind.Goals as goal

pub returns-then-n-a : goal.returns-then-n-a
returns-then-n-a c = search cases

pub returns : goal.returns
returns c = search cases
