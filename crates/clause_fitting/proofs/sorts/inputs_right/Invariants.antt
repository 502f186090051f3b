-- `clause_fitting::sorts::inputs_right` meets its contract.
-- Assumes nothing.
use Rattle.clause_checks.specs.Walks.{Fitting}
use Rattle.clause_fitting.specs.Fits.{sort_fits}
use Rattle.text_names.specs.Joint.{joint}
use Rattle.form.specs.Memory.{part}
use Rattle.clause_fitting.proofs.sorts.inputs_right.Given as goal

abbrev pub invariant-loop-i : goal.invariant-loop-i
invariant-loop-i l = Fitting (joint l.library l.text) (part l.work 0 l.t) (sort_fits (joint l.library l.text) (part l.work 0 l.t) l.work l.m l.actual) l.kind l.sorts l.i
