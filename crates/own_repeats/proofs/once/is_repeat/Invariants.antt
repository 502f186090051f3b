-- `own_repeats::once::is_repeat` meets its contract.
-- Assumes nothing.
use mathlib.Core.Path.{◌≡◌}
use Prim.Native.Nat.{◌-◌}
use Rattle.text_names.specs.Joint.{joint}
use Rattle.own_repeats.specs.Scans.{found}
use Rattle.own_repeats.specs.Once.{repeats}
use Rattle.own_repeats.proofs.once.is_repeat.Given as goal

abbrev pub invariant-loop-j : goal.invariant-loop-j
invariant-loop-j l = found (repeats (joint l.library l.text) l.tape l.i) l.start (l.i - l.start) ≡ found (repeats (joint l.library l.text) l.tape l.i) l.j (l.i - l.j)
