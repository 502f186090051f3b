-- `own_finding::find::find_variable` meets its contract.
-- Assumes nothing.
use Rattle.text_names.specs.Word.{name_of}
use Rattle.text_names.specs.Joint.{joint}
use Rattle.form.specs.Memory.{part}
use Rattle.own_finding.specs.Known.{variable_called}
use Rattle.form_walks.specs.Rows.{Finding}
use Rattle.own_finding.proofs.find.find_variable.Given as goal

abbrev pub invariant-loop-i : goal.invariant-loop-i
invariant-loop-i l = Finding (variable_called (name_of (joint l.library l.text) l.w)) (joint l.library l.text) (part l.work 0 l.t) l.work l.b l.n l.i
