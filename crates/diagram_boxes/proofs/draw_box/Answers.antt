use Rattle.diagram_boxes.proofs.Cases.{boxes}
use Rattle.diagram_boxes.proofs.draw_box.Goals as goal

pub returns : goal.returns
returns c = search boxes
