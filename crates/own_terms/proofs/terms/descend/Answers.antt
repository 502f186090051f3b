-- `own_terms::terms::descend` meets its contract.
-- Assumes nothing.
use Rattle.own_terms.proofs.Words.{worded}
use Rattle.own_terms.proofs.terms.descend.Goals as goal

pub returns : goal.returns
returns c = search worded
