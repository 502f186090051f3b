-- `clause_checks::pairs::old_word` meets its contract.
-- Assumes nothing.
use Rattle.clause_checks.proofs.PairCases.{words}
use Rattle.clause_checks.proofs.pairs.old_word.Goals as goal

pub returns : goal.returns
returns c = search words
