-- `unite_nodes::same_functions` meets its contract.
-- Assumes nothing.
use Rattle.unite_nodes.proofs.Agree.{agrees}
use Rattle.unite_nodes.proofs.same_functions.Goals as goal

pub returns-then-u-lt16 : goal.returns-then-u-lt16
returns-then-u-lt16 c = search agrees

pub returns-then-same_shape : goal.returns-then-same_shape
returns-then-same_shape c = search agrees

pub returns-then-u-v : goal.returns-then-u-v
returns-then-u-v c = search agrees

pub returns : goal.returns
returns c = search agrees
