-- `diagram_walk::draw_expression` meets its contract. Assumes nothing.
use Rattle.diagram_open.specs.Turns.{turn_absent, turn_opened}
use Rattle.diagram_walk.proofs.draw_expression.Goals as goal

pub returns-then-k-p : goal.returns-then-k-p
returns-then-k-p c = turn_absent _ _ _ _ _ _ _ _ _ _ c.requires.turning _ _ _ _ _ _ c.name_at-w.ensures c.find_number-p.ensures c.if-k-p.true _ _ _ _ c.draw_absent-s.ensures

pub returns : goal.returns
returns c = turn_opened _ _ _ _ _ _ _ _ _ _ c.requires.turning _ _ _ _ _ _ c.name_at-w.ensures c.find_number-p.ensures c.if-k-p.false _ _ _ _ c.draw_opened-s.ensures
