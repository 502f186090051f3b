-- `clause_checks::renamings::find_unfit` meets its contract.
-- Assumes nothing.
use Rattle.form_walks.specs.Rows.{Finding}
use Rattle.text_names.specs.Word.{name_of}
use Rattle.text_names.specs.Joint.{joint}
use Rattle.form.specs.Memory.{part}
use Rattle.clause_checks.specs.Renamed.{unfit}
use Rattle.clause_checks.proofs.renamings.find_unfit.Given as goal

abbrev pub invariant-loop-i : goal.invariant-loop-i
invariant-loop-i l =
    Finding (unfit (name_of (joint l.library l.text) l.old) (name_of (joint l.library l.text) l.new)) (joint l.library l.text) (part l.work 0 l.t) l.work l.b l.n l.i
