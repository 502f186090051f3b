-- `read_kept::nodes::counted` meets its contract.
-- Assumes nothing.
use Rattle.read_kept.proofs.Cases.{cases}
use Rattle.read_kept.proofs.nodes.counted.Goals as goal

pub returns-then-nodes-ge-NODE_LIMIT : goal.returns-then-nodes-ge-NODE_LIMIT
returns-then-nodes-ge-NODE_LIMIT c = search cases

pub returns-in_err-p : goal.returns-in_err-p
returns-in_err-p c = search cases

pub returns : goal.returns
returns c = search cases
