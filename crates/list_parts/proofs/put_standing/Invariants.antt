-- `list_parts::put_standing` meets its contract.
-- Assumes nothing.
use Rattle.text_names.specs.Joint.{joint}
use Rattle.list_pen.proofs.Rows.{Writing}
use Rattle.form_rows.specs.Rows.{section_of}
use Rattle.list_parts.specs.Lines.{standing_row}
use Rattle.list_parts.proofs.put_standing.Given as goal

abbrev pub invariant-loop-i : goal.invariant-loop-i
invariant-loop-i l =
    Writing l.limit (standing_row (joint l.library l.text) l.tape l.work l.base (section_of (joint l.library l.text) l.section) l.sort l.function) 0 l.count l.at l.initial.out l.i l.to l.out
