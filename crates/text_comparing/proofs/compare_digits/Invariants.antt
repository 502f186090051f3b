-- `text_comparing::compare_digits` meets its contract.
-- Assumes nothing.
use mathlib.Core.Path.{◌≡◌}
use Prim.Native.Nat.{◌-◌}
use lib.ListN.{length, drop}
use Rattle.text_runs.specs.Runs.{plainly_compared}
use Rattle.text_comparing.proofs.compare_digits.Given as goal

abbrev pub invariant-loop-at : goal.invariant-loop-at
invariant-loop-at l = plainly_compared (drop l.at l.a) (drop l.at l.b) ≡ plainly_compared (drop l.i l.a) (drop l.i l.b)

abbrev pub decreases-loop-at : goal.decreases-loop-at
decreases-loop-at l = length l.a - l.i
