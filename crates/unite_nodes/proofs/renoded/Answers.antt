-- `unite_nodes::renoded` meets its contract.
-- Assumes nothing.
use Rattle.unite_nodes.proofs.Runs.{runs}
use Rattle.unite_nodes.proofs.renoded.Goals as goal

pub returns-then-r-lt65536 : goal.returns-then-r-lt65536
returns-then-r-lt65536 c = search runs

pub returns : goal.returns
returns c = search runs
