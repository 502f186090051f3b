-- `text_comparing::plain_end` meets its contract.
-- Assumes nothing.
use Prim.Native.Nat.{◌+◌}
use mathlib.Core.Path.{◌≡◌}
use lib.ListN.{drop}
use Rattle.text_runs.specs.Runs.{plain_size}
use Rattle.text_comparing.proofs.plain_end.Given as goal

abbrev pub invariant-loop-i : goal.invariant-loop-i
invariant-loop-i l = l.at + plain_size (drop l.at l.a) (drop l.at l.b) ≡ l.i + plain_size (drop l.i l.a) (drop l.i l.b)
