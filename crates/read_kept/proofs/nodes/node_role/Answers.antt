-- `read_kept::nodes::node_role` meets its contract.
-- Assumes nothing.
use Rattle.read_kept.proofs.Cases.{cases}
use Rattle.read_kept.proofs.nodes.node_role.Goals as goal

pub returns-then-kind-eq40 : goal.returns-then-kind-eq40
returns-then-kind-eq40 c = search cases

pub returns : goal.returns
returns c = search cases
