-- `unite_finding::is_item` meets its contract.
-- Assumes nothing.
use Rattle.unite_finding.proofs.Finds.{item_other}
use borrow.Author.Rules.{rules}
use Rattle.unite_finding.proofs.is_item.Goals as goal

pub returns : goal.returns
returns c = search (item_other, rules)
