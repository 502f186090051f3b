-- `text_seams::has_room` meets its contract.
-- Assumes nothing.
use Rattle.text_seams.proofs.Rooms.{cases}
use Rattle.text_seams.proofs.has_room.Goals as goal

pub returns-then-w-le40 : goal.returns-then-w-le40
returns-then-w-le40 c = search cases

pub returns : goal.returns
returns c = search cases
