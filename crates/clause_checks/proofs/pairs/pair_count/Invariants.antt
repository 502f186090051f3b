-- `clause_checks::pairs::pair_count` meets its contract.
-- Assumes nothing.
use Rattle.clause_checks.proofs.PairCases.{Counting}
use Rattle.clause_checks.proofs.pairs.pair_count.Given as goal

abbrev pub invariant-loop-k : goal.invariant-loop-k
invariant-loop-k l = Counting l.tape l.pairs l.k
