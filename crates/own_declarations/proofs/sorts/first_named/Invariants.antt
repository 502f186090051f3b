-- `own_declarations::sorts::first_named` meets its contract.
-- Assumes nothing.
use mathlib.Core.Path.{◌≡◌}
use Prim.Native.Nat.{◌-◌}
use Rattle.text_names.specs.Word.{name_of}
use Rattle.text_names.specs.Joint.{joint}
use Rattle.own_repeats.specs.Scans.{first_of}
use Rattle.own_declarations.specs.Sorts.{is_named}
use Rattle.own_declarations.proofs.sorts.first_named.Given as goal

abbrev pub invariant-loop-i : goal.invariant-loop-i
invariant-loop-i l = first_of (is_named (joint l.library l.text) l.tape l.role (name_of (joint l.library l.text) l.w)) l.a (l.e - l.a) ≡ first_of (is_named (joint l.library l.text) l.tape l.role (name_of (joint l.library l.text) l.w)) l.i (l.e - l.i)
