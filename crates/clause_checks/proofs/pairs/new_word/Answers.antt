-- `clause_checks::pairs::new_word` meets its contract.
-- Assumes nothing.
use Rattle.clause_checks.proofs.PairCases.{words}
use Rattle.clause_checks.proofs.pairs.new_word.Goals as goal

pub returns : goal.returns
returns c = search words
