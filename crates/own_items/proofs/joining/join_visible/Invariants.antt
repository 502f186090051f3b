-- `own_items::joining::join_visible` meets its contract.
-- Assumes nothing.
use Rattle.text_names.specs.Joint.{joint}
use Rattle.own_items.proofs.Joins.{Joining}
use Rattle.own_items.proofs.joining.join_visible.Given as goal

abbrev pub invariant-loop-i : goal.invariant-loop-i
invariant-loop-i l = Joining (joint l.library l.text) l.t l.own l.base l.n l.initial.work l.work l.k l.i
