-- `clause_checks::notes::find_moved` meets its contract.
-- Assumes nothing.
use Rattle.clause_checks.proofs.NoteCases.{notes}
use Rattle.clause_checks.proofs.notes.find_moved.Goals as goal

pub returns : goal.returns
returns c = search notes
