-- `form_order::order_names` meets its contract. Assumes nothing.
use Rattle.text_names.specs.Joint.{joint}
use Rattle.form_order.proofs.Cases.{Begun}
use Rattle.form_order.proofs.order_names.Given as goal

abbrev pub invariant-loop-r : goal.invariant-loop-r
invariant-loop-r l = Begun (joint l.library l.text) l.initial.work l.work l.b l.s l.p l.n l.r
