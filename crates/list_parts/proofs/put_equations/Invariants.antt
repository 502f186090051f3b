-- `list_parts::put_equations` meets its contract.
-- Assumes nothing.
use Rattle.text_names.specs.Joint.{joint}
use Rattle.list_pen.proofs.Rows.{Writing}
use Rattle.list_parts.specs.Lines.{equation_row}
use Rattle.list_parts.proofs.put_equations.Given as goal

abbrev pub invariant-loop-i : goal.invariant-loop-i
invariant-loop-i l = Writing l.limit (equation_row (joint l.library l.text) l.work l.f) 0 l.count l.at l.initial.out l.i l.to l.out
