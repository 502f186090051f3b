-- `clause_translation::formals::is_formal_sort` meets its contract.
-- Assumes nothing.
use Rattle.form_walks.specs.Rows.{Finding}
use Rattle.text_names.specs.Word.{name_of}
use Rattle.text_names.specs.Joint.{joint}
use Rattle.form.specs.Memory.{part}
use Rattle.clause_translation.specs.Moved.{formal_sort}
use Rattle.clause_translation.proofs.formals.is_formal_sort.Given as goal

abbrev pub invariant-loop-i : goal.invariant-loop-i
invariant-loop-i l = Finding (formal_sort (name_of (joint l.library l.text) l.p) (name_of (joint l.library l.text) l.w)) (joint l.library l.text) (part l.work 0 l.t) l.work l.visible l.count l.i
