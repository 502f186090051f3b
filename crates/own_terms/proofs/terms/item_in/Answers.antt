-- `own_terms::terms::item_in` meets its contract.
-- Assumes nothing.
use Rattle.own_terms.proofs.Arguments.{argued}
use Rattle.own_terms.proofs.terms.item_in.Goals as goal

pub variable_row-v-requires : goal.variable_row-v-requires
variable_row-v-requires c = search argued

pub settle-a-requires : goal.settle-a-requires
settle-a-requires c = search argued

pub returns-then-v-count : goal.returns-then-v-count
returns-then-v-count c = search argued

pub type_applied-a-requires : goal.type_applied-a-requires
type_applied-a-requires c = search argued

pub returns : goal.returns
returns c = search argued
