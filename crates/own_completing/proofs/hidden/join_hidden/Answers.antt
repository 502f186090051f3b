use Rattle.own_completing.proofs.Notes.{notes}
use Rattle.own_completing.proofs.hidden.join_hidden.Goals as goal

pub returns : goal.returns
returns c = search notes
