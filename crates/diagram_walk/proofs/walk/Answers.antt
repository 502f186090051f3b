-- `diagram_walk::walk` meets its contract. Assumes nothing.
use Rattle.diagram_open.specs.Turns.{top_walked}
use Rattle.diagram_walk.proofs.walk.Goals as goal

pub returns : goal.returns
returns c = top_walked _ _ _ _ _ _ _ _ _ c.requires.starting _ _ _ _ _ _ _ _ c.begin-s.ensures c.go_on.ensures
