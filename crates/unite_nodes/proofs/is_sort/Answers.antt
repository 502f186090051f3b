-- `unite_nodes::is_sort` meets its contract.
-- Assumes nothing.
use Rattle.unite_nodes.proofs.Agree.{agrees}
use Rattle.unite_nodes.proofs.is_sort.Goals as goal

pub returns-then-w-eq0 : goal.returns-then-w-eq0
returns-then-w-eq0 c = search agrees

pub returns-then-same_word : goal.returns-then-same_word
returns-then-same_word c = search agrees

pub returns-then-k-eq-SORT : goal.returns-then-k-eq-SORT
returns-then-k-eq-SORT c = search agrees

pub returns-then-same_name_at : goal.returns-then-same_name_at
returns-then-same_name_at c = search agrees

pub returns : goal.returns
returns c = search agrees
