-- `form_rows::entries::next_with` meets its contract.
-- Assumes nothing.
use mathlib.Core.Path.{◌≡◌}
use Prim.Native.Nat.{◌-◌}
use Rattle.form_rows.specs.Entries.{next_with}
use Rattle.form_rows.proofs.entries.next_with.Given as goal

abbrev pub invariant-loop-j : goal.invariant-loop-j
invariant-loop-j l = next_with l.role l.tape l.i (l.end - l.i) ≡ next_with l.role l.tape l.j (l.end - l.j)
