-- `list_order::copying::copy_rows` meets its contract. Assumes nothing.
use Rattle.list_order.proofs.CopyCases.{Begun}
use Rattle.list_order.proofs.copying.copy_rows.Given as goal

abbrev pub invariant-loop-i : goal.invariant-loop-i
invariant-loop-i l = Begun l.from l.n l.order l.m l.to l.size l.initial.work l.work l.i
