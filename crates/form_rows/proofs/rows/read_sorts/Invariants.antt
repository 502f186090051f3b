-- `form_rows::rows::read_sorts` meets its contract.
-- Assumes nothing.
use Rattle.form_rows.proofs.Moves.{Gathered}
use Rattle.form_rows.proofs.rows.read_sorts.Given as goal

abbrev pub invariant-loop-i : goal.invariant-loop-i
invariant-loop-i l = Gathered l.w l.b l.sorts l.i
