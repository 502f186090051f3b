-- `list_parts::put_hidden_items` meets its contract.
-- Assumes nothing.
use Rattle.text_names.specs.Joint.{joint}
use Rattle.list_pen.proofs.Rows.{Writing}
use Rattle.list_parts.specs.Lines.{hidden_row}
use Rattle.list_parts.proofs.put_hidden_items.Given as goal

abbrev pub invariant-loop-i : goal.invariant-loop-i
invariant-loop-i l = Writing l.limit (hidden_row (joint l.library l.text) l.tape l.work l.base l.count) 0 l.count l.at l.initial.out l.i l.to l.out
