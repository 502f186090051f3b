-- `list_order::sorting::order_rows` meets its contract. Assumes nothing.
use Rattle.text_names.specs.Joint.{joint}
use Rattle.list_order.proofs.SortCases.{Begun}
use Rattle.list_order.proofs.sorting.order_rows.Given as goal

abbrev pub invariant-loop-r : goal.invariant-loop-r
invariant-loop-r l = Begun (joint l.library l.text) l.t l.initial.work l.work l.table l.p l.n l.r l.m
