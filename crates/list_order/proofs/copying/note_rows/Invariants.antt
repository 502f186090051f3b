-- `list_order::copying::note_rows` meets its contract. Assumes nothing.
use Rattle.list_order.proofs.CopyCases.{Noting}
use Rattle.list_order.proofs.copying.note_rows.Given as goal

abbrev pub invariant-loop-i : goal.invariant-loop-i
invariant-loop-i l = Noting l.order l.m l.notes l.n l.initial.work l.work l.i
