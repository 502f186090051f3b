-- `clause::clause_right` meets its contract.
-- Assumes nothing.
use Rattle.clause.proofs.Cases.{either}
use Rattle.clause.proofs.clause_right.Goals as goal

pub returns-then-kind-eq-BINDING : goal.returns-then-kind-eq-BINDING
returns-then-kind-eq-BINDING c = search either

pub returns : goal.returns
returns c = search either
