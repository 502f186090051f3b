-- `unite_nodes::same_node_sorts` meets its contract.
-- Assumes nothing.
use Rattle.unite_nodes.proofs.Agree.{agrees}
use Rattle.unite_nodes.proofs.same_node_sorts.Goals as goal

pub returns-then-l-eq-SORT : goal.returns-then-l-eq-SORT
returns-then-l-eq-SORT c = search agrees

pub returns-then-k-eq-SORT : goal.returns-then-k-eq-SORT
returns-then-k-eq-SORT c = search agrees

pub returns-then-l-eq-SORT-2 : goal.returns-then-l-eq-SORT-2
returns-then-l-eq-SORT-2 c = search agrees

pub returns : goal.returns
returns c = search agrees
