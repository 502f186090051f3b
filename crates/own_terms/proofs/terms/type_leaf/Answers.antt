-- `own_terms::terms::type_leaf` meets its contract.
-- Assumes nothing.
use Rattle.own_terms.proofs.Arguments.{argued}
use Rattle.own_terms.proofs.terms.type_leaf.Goals as goal

pub type_item-requires : goal.type_item-requires
type_item-requires c = search argued

pub returns : goal.returns
returns c = search argued
