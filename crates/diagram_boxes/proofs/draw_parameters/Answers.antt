-- `diagram_boxes::draw_parameters` meets its contract. Assumes nothing.
use Rattle.diagram_boxes.proofs.Cases.{parameters}
use Rattle.diagram_boxes.proofs.draw_parameters.Goals as goal

pub loop-j-preserved : goal.loop-j-preserved
loop-j-preserved c = search parameters

pub returns : goal.returns
returns c = search parameters
