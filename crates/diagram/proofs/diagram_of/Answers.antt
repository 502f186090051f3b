-- `diagram::diagram_of` meets its contract. Assumes nothing.
use mathlib.Core.Path.{refl}
use Rattle.diagram_lent.specs.Lent.{answer_over, answer_long, answer_done}
use Rattle.diagram.proofs.diagram_of.Goals as goal

pub returns-then-lines-ge-LINES : goal.returns-then-lines-ge-LINES
returns-then-lines-ge-LINES c = answer_over _ _ _ _ _ _ _ _ c.requires.asked _ _ _ _ _ c.walk-c.ensures _ refl _ c.if-lines-ge-LINES.true c.over_lines.ensures

pub returns-then-room-size : goal.returns-then-room-size
returns-then-room-size c = answer_long _ _ _ _ _ _ _ _ c.requires.asked _ _ _ _ _ c.walk-c.ensures _ refl c.if-lines-ge-LINES.false _ c.if-room-size.true c.lent_short.ensures

pub returns : goal.returns
returns c = answer_done _ _ _ _ _ _ _ _ c.requires.asked _ _ _ _ _ c.walk-c.ensures _ refl c.if-lines-ge-LINES.false _ c.if-room-size.false _ _ _ _ c.walk-s.ensures c.listed.ensures
