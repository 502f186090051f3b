-- `form_order::find_place` meets its contract. Assumes nothing.
use Prim.Native.Nat.{◌-◌}
use Rattle.text_names.specs.Joint.{joint}
use Rattle.form_order.proofs.Cases.{Narrowed}
use Rattle.form_order.proofs.find_place.Given as goal

abbrev pub invariant-loop-lo : goal.invariant-loop-lo
invariant-loop-lo l = Narrowed (joint l.library l.text) l.w l.b l.s l.p l.n l.x l.lo l.hi

abbrev pub decreases-loop-lo : goal.decreases-loop-lo
decreases-loop-lo l = l.hi - l.lo
