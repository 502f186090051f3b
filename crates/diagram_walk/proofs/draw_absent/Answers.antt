-- `diagram_walk::draw_absent` meets its contract. Assumes nothing.
use Rattle.diagram_walk.proofs.Cases.{opening}
use Rattle.diagram_walk.proofs.draw_absent.Goals as goal

pub returns : goal.returns
returns c = search opening
