-- `unite_equations::with_counts` meets its contract.
-- Assumes nothing.
use borrow.Author.Rules.{rules}
use Rattle.unite_nodes.specs.Joined.{with_counts}
use Rattle.unite_equations.proofs.with_counts.Goals as goal

pub returns : goal.returns
unfolding with_counts
returns c = search rules
