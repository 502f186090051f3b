-- `unite_nodes::same_node_at` meets its contract.
-- Assumes nothing.
use Rattle.unite_nodes.proofs.Runs.{runs}
use Rattle.unite_nodes.proofs.same_node_at.Goals as goal

pub returns : goal.returns
returns c = search runs
