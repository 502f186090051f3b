-- `read_kept::nodes::term_name` meets its contract.
-- Assumes nothing.
use Rattle.read_kept.proofs.Cases.{nodes}
use Rattle.read_kept.proofs.nodes.term_name.Goals as goal

pub returns-then-next_is : goal.returns-then-next_is
returns-then-next_is c = search nodes

pub returns : goal.returns
returns c = search nodes
