-- `unite_nodes::renode` meets its contract.
-- Assumes nothing.
use Rattle.unite_nodes.proofs.Runs.{runs}
use Rattle.unite_nodes.proofs.renode.Goals as goal

pub returns-then-v-lt16 : goal.returns-then-v-lt16
returns-then-v-lt16 c = search runs

pub returns : goal.returns
returns c = search runs
