-- `form_rows::rows::write_sorts` meets its contract.
-- Assumes nothing.
use Rattle.form_rows.proofs.Moves.{Storing}
use Rattle.form_rows.proofs.rows.write_sorts.Given as goal

abbrev pub invariant-loop-i : goal.invariant-loop-i
invariant-loop-i l = Storing l.initial.w l.b l.sorts l.w l.i
