-- `diagram_boxes::is_parameter` meets its contract.
-- Assumes nothing.
use Rattle.diagram_boxes.specs.Boxes.{is_parameter}
use Rattle.form_rows.proofs.Auto.{tests}
use Rattle.diagram_boxes.proofs.is_parameter.Goals as goal

pub returns : goal.returns
unfolding is_parameter
returns c = search tests
