-- `diagram_boxes::draw_binds` meets its contract. Assumes nothing.
use Rattle.diagram_boxes.proofs.Cases.{binds}
use Rattle.diagram_boxes.proofs.draw_binds.Goals as goal
use Rattle.diagram_boxes.proofs.draw_binds.Goals.{then-role-eq-BINDING, else-role-eq-BINDING+then-role-eq-ACTUAL, else-role-eq-BINDING+else-role-eq-ACTUAL}

pub returns-then-role-lt-RENAMING : goal.returns-then-role-lt-RENAMING
returns-then-role-lt-RENAMING c = search binds

pub returns-then-role-gt-ACTUAL : goal.returns-then-role-gt-ACTUAL
returns-then-role-gt-ACTUAL c = search binds

pub loop-j-preserved : goal.loop-j-preserved
loop-j-preserved c =
    elim c.if-role-eq-BINDING.branch [
      | then-role-eq-BINDING w ↦ rw (w.out-is, w.to-is, w.n-is, w.p-is) (search binds)
      | else-role-eq-BINDING+then-role-eq-ACTUAL w ↦ rw (w.out-is, w.to-is, w.n-is, w.p-is) (search binds)
      | else-role-eq-BINDING+else-role-eq-ACTUAL w ↦ rw (w.out-is, w.to-is, w.n-is, w.p-is) (search binds)
    ]

pub returns : goal.returns
returns c = search binds
