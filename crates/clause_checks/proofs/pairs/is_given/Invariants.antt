-- `clause_checks::pairs::is_given` meets its contract.
-- Assumes nothing.
use Rattle.text_names.specs.Joint.{joint}
use Rattle.clause_checks.proofs.PairCases.{Looking}
use Rattle.clause_checks.proofs.pairs.is_given.Given as goal

abbrev pub invariant-loop-j : goal.invariant-loop-j
invariant-loop-j l = Looking (joint l.library l.text) l.tape l.pairs l.k l.a l.j
