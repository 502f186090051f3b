use Rattle.diagram_lines.proofs.Cases.{cases}
use Rattle.diagram_lines.proofs.draw_named.Goals as goal

pub returns-then-lines-ge-LINES : goal.returns-then-lines-ge-LINES
returns-then-lines-ge-LINES c = search cases

pub returns : goal.returns
returns c = search cases
