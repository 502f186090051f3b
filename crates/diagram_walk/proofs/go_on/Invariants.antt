-- `diagram_walk::go_on` meets its contract. Assumes nothing.
use Prim.Native.Nat.{◌+◌, ◌-◌, ◌*◌}
use Rattle.text_names.specs.Joint.{joint}
use Rattle.modules.specs.Modules.{heads_in}
use Rattle.diagram_lines.specs.Sheet.{line_limit}
use Rattle.diagram_open.specs.Turns.{Underway, read_modules}
use Rattle.diagram_walk.proofs.go_on.Given as goal

abbrev pub invariant-loop-boxes : goal.invariant-loop-boxes
invariant-loop-boxes l =
    Underway l.limit (joint l.library l.text) (read_modules l.library l.text) (heads_in l.h) l.t l.base l.initial.work l.at l.lines l.initial.out l.work l.out l.boxes l.to l.n

abbrev pub decreases-loop-boxes : goal.decreases-loop-boxes
decreases-loop-boxes l = l.boxes + 2 * (line_limit - l.n)
