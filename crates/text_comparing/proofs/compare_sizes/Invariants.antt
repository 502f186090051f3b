-- `text_comparing::compare_sizes` meets its contract.
-- Assumes nothing.
use mathlib.Core.Path.{◌≡◌}
use Prim.Native.Nat.{◌-◌}
use lib.ListN.{length, drop}
use Rattle.std.specs.Ordering.{ordering_index}
use Rattle.text_runs.specs.Runs.{digits_of, by_size}
use Rattle.text_comparing.proofs.compare_sizes.Given as goal

abbrev pub invariant-loop-level : goal.invariant-loop-level
invariant-loop-level l = by_size (digits_of (drop l.at l.a)) (digits_of (drop l.at l.b)) (ordering_index l.level) ≡ by_size (digits_of (drop l.i l.a)) (digits_of (drop l.i l.b)) (ordering_index l.level)

abbrev pub decreases-loop-level : goal.decreases-loop-level
decreases-loop-level l = length l.a - l.i
