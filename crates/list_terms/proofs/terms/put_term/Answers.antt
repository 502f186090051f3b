-- `list_terms::terms::put_term` meets its contract.
-- Assumes nothing.
use Rattle.list_terms.proofs.PlaceCases.{came_back}
use Rattle.list_terms.proofs.terms.put_term.Goals as goal

pub returns : goal.returns
returns c = came_back _ _ _ _ _ _ c.out-1.given.1.0 c.put_lent-back.ensures
