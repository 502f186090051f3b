-- `clause_fitting::items::find_misfit` meets its contract.
-- Assumes nothing.
use Rattle.form_walks.specs.Rows.{Finding}
use Rattle.text_names.specs.Word.{name_of}
use Rattle.text_names.specs.Joint.{joint}
use Rattle.form.specs.Memory.{part}
use Rattle.clause_fitting.specs.Fits.{misfit}
use Rattle.clause_fitting.proofs.items.find_misfit.Given as goal

abbrev pub invariant-loop-i : goal.invariant-loop-i
invariant-loop-i l =
    Finding (misfit (joint l.library l.text) (part l.work 0 l.t) l.work l.m l.actual l.by_type (name_of (joint l.library l.text) l.old) (name_of (joint l.library l.text) l.new)) (joint l.library l.text) (part l.work 0 l.t) l.work l.b l.n l.i
