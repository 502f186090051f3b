-- `list_items::put_others` meets its contract.
-- Assumes nothing.
use Rattle.text_names.specs.Joint.{joint}
use Rattle.list_pen.proofs.Rows.{Writing}
use Rattle.list_items.specs.Parts.{marked_name}
use Rattle.list_items.proofs.put_others.Given as goal

abbrev pub invariant-loop-i : goal.invariant-loop-i
invariant-loop-i l = Writing l.limit (marked_name (joint l.library l.text) l.tape) l.first l.end l.at l.initial.out l.i l.to l.out
