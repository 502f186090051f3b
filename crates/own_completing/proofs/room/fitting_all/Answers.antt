use Rattle.own_completing.proofs.Rooms.{rooms}
use Rattle.own_completing.proofs.room.fitting_all.Goals as goal

pub returns-in_err-room : goal.returns-in_err-room
returns-in_err-room c = search rooms

pub returns : goal.returns
returns c = search rooms
