-- `unite::with_items` meets its contract.
-- Assumes nothing.
use borrow.Author.Rules.{rules}
use Rattle.unite.specs.United.{with_items}
use Rattle.unite.proofs.with_items.Goals as goal

pub returns : goal.returns
unfolding with_items
returns c = search rules
