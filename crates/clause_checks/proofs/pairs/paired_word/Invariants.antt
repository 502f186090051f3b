-- `clause_checks::pairs::paired_word` meets its contract.
-- Assumes nothing.
use Rattle.clause_checks.proofs.PairCases.{Pairing}
use Rattle.text_names.specs.Joint.{joint}
use Rattle.clause_checks.proofs.pairs.paired_word.Given as goal

abbrev pub invariant-loop-k : goal.invariant-loop-k
invariant-loop-k l = Pairing (joint l.library l.text) l.tape l.pairs l.a l.n l.k
