-- `clause_checks::notes::note_formals` meets its contract.
-- Assumes nothing.
use Rattle.clause_checks.proofs.NoteCases.{notings}
use Rattle.clause_checks.proofs.notes.note_formals.Goals as goal

pub loop-k-init : goal.loop-k-init
loop-k-init c = search notings

pub note_formal-requires : goal.note_formal-requires
note_formal-requires c = search notings

pub loop-k-preserved : goal.loop-k-preserved
loop-k-preserved c = search notings

pub shape_of-work : goal.shape_of-work
shape_of-work c = search notings

pub returns : goal.returns
returns c = search notings
