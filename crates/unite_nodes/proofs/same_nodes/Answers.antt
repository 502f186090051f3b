-- `unite_nodes::same_nodes` meets its contract.
-- Assumes nothing.
use Rattle.unite_nodes.proofs.Runs.{run_again, run_other, run_end}
use borrow.Author.Rules.{rules}
use Rattle.unite_nodes.proofs.same_nodes.Goals as goal

pub loop-k-preserved : goal.loop-k-preserved
loop-k-preserved c = search (run_again, c.loop-k.invariant, c.same_node_at.ensures, rules)

pub returns : goal.returns
returns c = search (run_end, rules)

pub returns-then-not-same_node_at : goal.returns-then-not-same_node_at
returns-then-not-same_node_at c = search (run_other, rules)
