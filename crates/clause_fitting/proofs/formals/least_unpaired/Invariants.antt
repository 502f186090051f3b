-- `clause_fitting::formals::least_unpaired` meets its contract.
-- Assumes nothing.
use Rattle.text_names.specs.Joint.{joint}
use Rattle.clause_fitting.proofs.FormalCases.{Lasting}
use Rattle.form.specs.Memory.{part}
use Rattle.clause_fitting.proofs.formals.least_unpaired.Given as goal

abbrev pub invariant-loop-k : goal.invariant-loop-k
invariant-loop-k l = Lasting (joint l.library l.text) (part l.work 0 l.t) l.work l.m l.k l.best
