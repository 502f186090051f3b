-- `clause_translation::formals::is_formal_function` meets its contract.
-- Assumes nothing.
use Rattle.form_walks.specs.Rows.{Finding}
use Rattle.text_names.specs.Word.{name_of}
use Rattle.text_names.specs.Joint.{joint}
use Rattle.form_rows.specs.Rows.{shape_of}
use Rattle.form.specs.Memory.{part}
use Rattle.clause_translation.specs.Moved.{formal_function}
use Rattle.clause_translation.proofs.formals.is_formal_function.Given as goal

abbrev pub invariant-loop-i : goal.invariant-loop-i
invariant-loop-i l =
    Finding (formal_function (name_of (joint l.library l.text) l.m.parameter) (name_of (joint l.library l.text) l.row.name) (shape_of (joint l.library l.text) (part l.work 0 l.t) l.row.kind l.row.sorts)) (joint l.library l.text) (part l.work 0 l.t) l.work l.m.visible l.count l.i
