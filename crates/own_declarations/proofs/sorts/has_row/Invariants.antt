-- `own_declarations::sorts::has_row` meets its contract.
-- Assumes nothing.
use mathlib.Core.Path.{◌≡◌}
use Prim.Native.Nat.{◌-◌}
use Rattle.text_names.specs.Word.{name_of}
use Rattle.text_names.specs.Joint.{joint}
use Rattle.own_repeats.specs.Scans.{found}
use Rattle.own_declarations.specs.Sorts.{is_row}
use Rattle.own_declarations.proofs.sorts.has_row.Given as goal

abbrev pub invariant-loop-i : goal.invariant-loop-i
invariant-loop-i l = found (is_row (joint l.library l.text) l.work l.b l.kind (name_of (joint l.library l.text) l.w)) 0 l.n ≡ found (is_row (joint l.library l.text) l.work l.b l.kind (name_of (joint l.library l.text) l.w)) l.i (l.n - l.i)
