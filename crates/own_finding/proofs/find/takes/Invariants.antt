-- `own_finding::find::takes` meets its contract.
-- Assumes nothing.
use mathlib.Core.Path.{◌≡◌}
use Prim.Native.Nat.{◌+◌, ◌*◌}
use Rattle.text_names.specs.Joint.{joint}
use Rattle.form_rows.specs.Rows.{row_size}
use Rattle.form.specs.Memory.{part}
use Rattle.own_finding.proofs.Seeks.{SortsFrom}
use Rattle.own_finding.proofs.find.takes.Given as goal

abbrev pub invariant-loop-j : goal.invariant-loop-j
invariant-loop-j l =
    let left = SortsFrom (joint l.library l.text) (part l.work 0 l.t) l.work l.sorts (l.b + l.i * row_size) l.n in left 0 ≡ left l.j
