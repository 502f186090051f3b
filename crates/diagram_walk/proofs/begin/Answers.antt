-- `diagram_walk::begin` meets its contract. Assumes nothing.
use Rattle.diagram_open.specs.Turns.{top_begun}
use Rattle.diagram_walk.proofs.begin.Goals as goal

pub returns : goal.returns
returns c = top_begun _ _ _ _ _ _ _ _ _ c.requires.starting _ _ _ _ _ _ c.place_at-f.ensures c.put_word.ensures c.put_word-2.ensures c.draw_box-s.ensures
