-- `own_terms::terms::point_at` meets its contract.
-- Assumes nothing.
use Rattle.own_terms.proofs.Words.{worded}
use Rattle.own_terms.proofs.terms.point_at.Goals as goal

pub returns : goal.returns
returns c = search worded
