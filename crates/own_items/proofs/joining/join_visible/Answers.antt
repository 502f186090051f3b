-- `own_items::joining::join_visible` meets its contract.
-- Assumes nothing.
use borrow.Author.Rules.{rules}
use Rattle.own_items.proofs.Joins.{joins, joining_on}
use Rattle.own_items.proofs.joining.join_visible.Goals as goal

pub loop-i-preserved-then-not-is_own : goal.loop-i-preserved-then-not-is_own
loop-i-preserved-then-not-is_own c = search joins

pub loop-i-preserved : goal.loop-i-preserved
loop-i-preserved c = search (joining_on, c.loop-i.invariant, c.loop-i-test.true, c.is_own.ensures, c.if-not-is_own.false, c.join_item-k.ensures, rules)

pub returns : goal.returns
returns c = search joins

pub join_item-k-requires : goal.join_item-k-requires
join_item-k-requires c = search joins
