-- `unite_nodes::node_row` meets its contract.
-- Assumes nothing.
use Rattle.unite_nodes.proofs.Agree.{agrees}
use Rattle.unite_nodes.proofs.node_row.Goals as goal

pub returns-then-v-eq0 : goal.returns-then-v-eq0
returns-then-v-eq0 c = search agrees

pub returns : goal.returns
returns c = search agrees
