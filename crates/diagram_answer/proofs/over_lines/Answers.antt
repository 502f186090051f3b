-- `diagram_answer::over_lines` meets its contract. Assumes nothing.
use Rattle.diagram_answer.proofs.Cases.{cases}
use Rattle.diagram_answer.proofs.over_lines.Goals as goal

pub returns : goal.returns
returns c = search cases
