-- `list_order::sorting::find_place` meets its contract. Assumes nothing.
use Prim.Native.Nat.{◌-◌}
use Rattle.text_names.specs.Joint.{joint}
use Rattle.list_order.proofs.SortCases.{Narrowed}
use Rattle.list_order.proofs.sorting.find_place.Given as goal

abbrev pub invariant-loop-lo : goal.invariant-loop-lo
invariant-loop-lo l = Narrowed (joint l.library l.text) l.tape l.low l.work l.table l.p l.m l.x l.lo l.hi

abbrev pub decreases-loop-lo : goal.decreases-loop-lo
decreases-loop-lo l = l.hi - l.lo
