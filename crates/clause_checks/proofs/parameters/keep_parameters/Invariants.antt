-- `clause_checks::parameters::keep_parameters` meets its contract.
-- Assumes nothing.
use Rattle.clause_checks.proofs.ParameterCases.{Keeping}
use Rattle.text_names.specs.Joint.{joint}
use Rattle.clause_checks.proofs.parameters.keep_parameters.Given as goal

abbrev pub invariant-loop-k : goal.invariant-loop-k
invariant-loop-k l = Keeping (joint l.library l.text) l.initial.work l.names l.count l.p l.place l.work l.n l.k
