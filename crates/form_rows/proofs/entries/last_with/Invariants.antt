-- `form_rows::entries::last_with` meets its contract.
-- Assumes nothing.
use mathlib.Core.Path.{◌≡◌}
use Rattle.form_rows.specs.Entries.{last_with}
use Rattle.form_rows.proofs.entries.last_with.Given as goal

abbrev pub invariant-loop-j : goal.invariant-loop-j
invariant-loop-j l = last_with l.role l.tape l.i ≡ last_with l.role l.tape l.j
