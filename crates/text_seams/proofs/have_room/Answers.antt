-- `text_seams::have_room` meets its contract.
-- Assumes nothing.
use Rattle.text_seams.proofs.Rooms.{cases}
use Rattle.text_seams.proofs.have_room.Goals as goal

pub returns-then-has_room : goal.returns-then-has_room
returns-then-has_room c = search cases

pub returns : goal.returns
returns c = search cases
