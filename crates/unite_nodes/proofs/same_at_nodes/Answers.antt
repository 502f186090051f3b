-- `unite_nodes::same_at_nodes` meets its contract.
-- Assumes nothing.
use Rattle.unite_nodes.proofs.Agree.{agrees}
use Rattle.unite_nodes.proofs.same_at_nodes.Goals as goal

pub returns-then-same_origin : goal.returns-then-same_origin
returns-then-same_origin c = search agrees

pub returns-then-l-lt-FUNCTION : goal.returns-then-l-lt-FUNCTION
returns-then-l-lt-FUNCTION c = search agrees

pub returns-then-k-lt-FUNCTION : goal.returns-then-k-lt-FUNCTION
returns-then-k-lt-FUNCTION c = search agrees

pub returns-then-l-lt-FUNCTION-2 : goal.returns-then-l-lt-FUNCTION-2
returns-then-l-lt-FUNCTION-2 c = search agrees

pub returns : goal.returns
returns c = search agrees
