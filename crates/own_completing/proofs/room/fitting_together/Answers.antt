use Rattle.own_completing.proofs.Rooms.{rooms}
use Rattle.own_completing.proofs.room.fitting_together.Goals as goal

pub returns-in_err-total_room : goal.returns-in_err-total_room
returns-in_err-total_room c = search rooms

pub returns : goal.returns
returns c = search rooms
