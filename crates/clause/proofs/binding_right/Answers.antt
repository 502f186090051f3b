-- `clause::binding_right` meets its contract.
-- Assumes nothing.
use Rattle.clause.proofs.Cases.{ends}
use Rattle.clause.proofs.binding_right.Goals as goal

pub returns-in_err-pairs_right : goal.returns-in_err-pairs_right
returns-in_err-pairs_right c = search ends

pub returns : goal.returns
returns c = search ends
