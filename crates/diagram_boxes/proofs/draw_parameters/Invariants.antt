-- `diagram_boxes::draw_parameters` meets its contract. Assumes nothing.
use Rattle.text_names.specs.Joint.{joint}
use Rattle.diagram_boxes.proofs.Cases.{Parameters}
use Rattle.diagram_boxes.proofs.draw_parameters.Given as goal

abbrev pub invariant-loop-j : goal.invariant-loop-j
invariant-loop-j l =
    Parameters l.limit (joint l.library l.text) l.tape l.depth l.a l.end l.at l.lines l.initial.out l.j l.to l.n l.out
