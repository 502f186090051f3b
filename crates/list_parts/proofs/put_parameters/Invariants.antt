-- `list_parts::put_parameters` meets its contract.
-- Assumes nothing.
use Rattle.text_names.specs.Joint.{joint}
use Rattle.list_pen.proofs.Rows.{Writing}
use Rattle.list_parts.specs.Lines.{parameter_row}
use Rattle.list_parts.proofs.put_parameters.Given as goal

abbrev pub invariant-loop-i : goal.invariant-loop-i
invariant-loop-i l = Writing l.limit (parameter_row (joint l.library l.text) l.tape l.work l.f) 0 l.count l.at l.initial.out l.i l.to l.out
