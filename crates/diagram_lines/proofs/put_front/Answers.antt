use Rattle.diagram_lines.proofs.Cases.{cases}
use Rattle.diagram_lines.proofs.put_front.Goals as goal

pub returns : goal.returns
returns c = search cases
