-- `form_rows::entries::inputs_from` meets its contract.
-- Assumes nothing.
use Rattle.form_rows.proofs.Scans.{Counted}
use Rattle.form_rows.proofs.entries.inputs_from.Given as goal

abbrev pub invariant-loop-j : goal.invariant-loop-j
invariant-loop-j l = Counted l.tape l.i l.end l.j
