-- `own_repeats::once::declared_once` meets its contract.
-- Assumes nothing.
use mathlib.Core.Path.{◌≡◌}
use Prim.Native.Nat.{◌-◌}
use Rattle.text_names.specs.Joint.{joint}
use Rattle.own_repeats.specs.Scans.{walked}
use Rattle.own_repeats.specs.Once.{once_at}
use Rattle.own_repeats.proofs.once.declared_once.Given as goal

abbrev pub invariant-loop-i : goal.invariant-loop-i
invariant-loop-i l = walked (once_at (joint l.library l.text) l.tape l.a) l.a (l.e - l.a) ≡ walked (once_at (joint l.library l.text) l.tape l.a) l.i (l.e - l.i)
