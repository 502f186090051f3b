-- `unite_nodes::copy_nodes` meets its contract.
-- Assumes nothing.
use Rattle.unite_nodes.proofs.Runs.{runs}
use Rattle.unite_nodes.proofs.copy_nodes.Goals as goal

pub loop-k-preserved : goal.loop-k-preserved
loop-k-preserved c = search runs

pub returns : goal.returns
returns c = search runs
