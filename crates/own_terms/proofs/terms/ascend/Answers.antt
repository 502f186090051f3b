-- `own_terms::terms::ascend` meets its contract.
-- Assumes nothing.
use Rattle.own_terms.proofs.Words.{worded}
use Rattle.own_terms.proofs.terms.ascend.Goals as goal

pub returns : goal.returns
returns c = search worded
