-- `text_elements::compare_across` meets its contract.
-- Assumes nothing.
use Prim.Native.Nat.{◌-◌}
use mathlib.Core.Path.{◌≡◌}
use lib.ListN.{drop}
use Rattle.text_spelling.specs.Word.{name_of}
use Rattle.text_runs.specs.Orders.{compared}
use Rattle.text_spelling.specs.Joint.{joint}
use Rattle.text_elements.proofs.compare_across.Given as goal

abbrev pub invariant-loop-i : goal.invariant-loop-i
invariant-loop-i l = compared (name_of (joint l.library l.text) l.a) (name_of (joint l.library l.text) l.b)
    ≡ compared (drop l.i (name_of (joint l.library l.text) l.a)) (drop l.i (name_of (joint l.library l.text) l.b))

abbrev pub decreases-loop-i : goal.decreases-loop-i
decreases-loop-i l = l.n - l.i
