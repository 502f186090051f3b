-- `list_order::copying::copy_row` meets its contract. Assumes nothing.
use Prim.Native.Nat.{◌+◌, ◌*◌}
use Rattle.list_order.proofs.CopyCases.{Copying}
use Rattle.list_order.proofs.copying.copy_row.Given as goal

abbrev pub invariant-loop-j : goal.invariant-loop-j
invariant-loop-j l = Copying (l.from + l.r * l.size) (l.to + l.i * l.size) l.size l.initial.work l.work l.j
