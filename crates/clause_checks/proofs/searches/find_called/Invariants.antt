-- `clause_checks::searches::find_called` meets its contract.
-- Assumes nothing.
use Rattle.form_walks.specs.Rows.{Finding}
use Rattle.meaning.specs.Normal.{is_called}
use Rattle.text_names.specs.Word.{name_of}
use Rattle.text_names.specs.Joint.{joint}
use Rattle.form.specs.Memory.{part}
use Rattle.clause_checks.proofs.searches.find_called.Given as goal

abbrev pub invariant-loop-i : goal.invariant-loop-i
invariant-loop-i l = Finding (is_called (name_of (joint l.library l.text) l.a)) (joint l.library l.text) (part l.work 0 l.t) l.work l.b l.n l.i
