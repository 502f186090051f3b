-- `clause_checks::notes::note_formal` meets its contract.
-- Assumes nothing.
use Rattle.clause_checks.proofs.NoteCases.{notes}
use Rattle.clause_checks.proofs.notes.note_formal.Goals as goal

pub returns-then-in_parameter : goal.returns-then-in_parameter
returns-then-in_parameter c = search notes

pub returns : goal.returns
returns c = search notes
