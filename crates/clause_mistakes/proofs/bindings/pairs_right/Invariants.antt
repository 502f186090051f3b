-- `clause_mistakes::bindings::pairs_right` meets its contract.
-- Assumes nothing.
use Rattle.clause_mistakes.proofs.BindingCases.{Checking}
use Rattle.text_names.specs.Joint.{joint}
use Rattle.form.specs.Memory.{part}
use Rattle.clause_mistakes.proofs.bindings.pairs_right.Given as goal

abbrev pub invariant-loop-k : goal.invariant-loop-k
invariant-loop-k l = Checking (joint l.library l.text) (part l.work 0 l.t) l.work l.m l.actual l.n l.k
