-- `diagram_walk::draw_opened` meets its contract. Assumes nothing.
use Rattle.diagram_walk.proofs.Cases.{opening}
use Rattle.diagram_walk.proofs.draw_opened.Goals as goal

pub returns : goal.returns
returns c = search opening
