-- `clause::formals_noted` meets its contract.
-- Assumes nothing.
use Rattle.clause.proofs.Cases.{either}
use Rattle.clause.proofs.formals_noted.Goals as goal

pub note_formals-requires : goal.note_formals-requires
note_formals-requires c = search either

pub returns-then-kind-eq-BINDING : goal.returns-then-kind-eq-BINDING
returns-then-kind-eq-BINDING c = search either

pub returns : goal.returns
returns c = search either
