-- `list_types::put_others` meets its contract.
-- Assumes nothing.
use Rattle.text_names.specs.Joint.{joint}
use Rattle.list_pen.proofs.Rows.{Writing}
use Rattle.list_types.specs.Sorts.{marked_sort}
use Rattle.list_types.proofs.put_others.Given as goal

abbrev pub invariant-loop-i : goal.invariant-loop-i
invariant-loop-i l = Writing l.limit (marked_sort (joint l.library l.text) l.tape l.work l.base l.count l.sorts) 1 l.end l.at l.initial.out l.i l.to l.out
