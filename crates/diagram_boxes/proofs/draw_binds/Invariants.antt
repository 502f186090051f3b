-- `diagram_boxes::draw_binds` meets its contract. Assumes nothing.
use Rattle.text_names.specs.Joint.{joint}
use Rattle.diagram_boxes.proofs.Cases.{Bindings}
use Rattle.diagram_boxes.proofs.draw_binds.Given as goal

abbrev pub invariant-loop-j : goal.invariant-loop-j
invariant-loop-j l = Bindings l.limit (joint l.library l.text) l.tape l.depth l.q l.a l.end l.at l.lines l.initial.out l.p l.j l.to l.n l.out
