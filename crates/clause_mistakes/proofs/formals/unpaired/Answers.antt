-- `clause_mistakes::formals::unpaired` meets its contract.
-- Assumes nothing.
use Rattle.clause_mistakes.proofs.FormalCases.{verdicts}
use Rattle.clause_mistakes.proofs.formals.unpaired.Goals as goal

pub returns-in-Some : goal.returns-in-Some
returns-in-Some c = search verdicts

pub returns-in-None : goal.returns-in-None
returns-in-None c = search verdicts
