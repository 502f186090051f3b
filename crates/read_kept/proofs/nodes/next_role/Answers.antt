-- `read_kept::nodes::next_role` meets its contract.
-- Assumes nothing.
use Rattle.read_kept.proofs.Cases.{cases}
use Rattle.read_kept.proofs.nodes.next_role.Goals as goal

pub returns-in-Err : goal.returns-in-Err
returns-in-Err c = search cases

pub returns-in-Ok : goal.returns-in-Ok
returns-in-Ok c = search cases
