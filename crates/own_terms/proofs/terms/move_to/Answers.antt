-- `own_terms::terms::move_to` meets its contract.
-- Assumes nothing.
use Rattle.own_terms.proofs.Words.{worded}
use Rattle.own_terms.proofs.terms.move_to.Goals as goal

pub returns : goal.returns
returns c = search worded
