-- `unite_nodes::same_node` meets its contract.
-- Assumes nothing.
use Rattle.unite_nodes.proofs.Agree.{agrees}
use Rattle.unite_nodes.proofs.same_node.Goals as goal

pub returns-then-u-v : goal.returns-then-u-v
returns-then-u-v c = search agrees

pub returns : goal.returns
returns c = search agrees
