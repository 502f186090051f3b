-- `clause_checks::parameters::has_parameter` meets its contract.
-- Assumes nothing.
use Rattle.clause_checks.specs.Searches.{slot_called}
use Rattle.form_walks.specs.Rows.{Seeking}
use Rattle.text_names.specs.Word.{name_of}
use Rattle.text_names.specs.Joint.{joint}
use Rattle.clause_checks.proofs.parameters.has_parameter.Given as goal

abbrev pub invariant-loop-i : goal.invariant-loop-i
invariant-loop-i l = Seeking (slot_called (name_of (joint l.library l.text) l.p)) (joint l.library l.text) l.work l.parameters l.count l.i
