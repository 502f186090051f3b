-- `own_declarations::sorts::declares_one` meets its contract.
-- Assumes nothing.
use mathlib.Core.Path.{◌≡◌}
use Prim.Native.Nat.{◌-◌}
use Rattle.text_names.specs.Word.{name_of}
use Rattle.text_names.specs.Joint.{joint}
use Rattle.own_repeats.specs.Scans.{found}
use Rattle.own_declarations.specs.Sorts.{declares_at}
use Rattle.own_declarations.proofs.sorts.declares_one.Given as goal

abbrev pub invariant-loop-i : goal.invariant-loop-i
invariant-loop-i l = found (declares_at (joint l.library l.text) l.tape (name_of (joint l.library l.text) l.w)) l.a (l.e - l.a) ≡ found (declares_at (joint l.library l.text) l.tape (name_of (joint l.library l.text) l.w)) l.i (l.e - l.i)
