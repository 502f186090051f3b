-- `own_declarations::rows::own_rows` meets its contract.
-- Assumes nothing.
use borrow.Author.Rules.{rules}
use Rattle.own_declarations.proofs.Made.{making, append_put}
use Rattle.own_declarations.proofs.rows.own_rows.Goals as goal

pub overflow_add-k : goal.overflow_add-k
overflow_add-k c = search making

pub loop-i-preserved-then-not-is_own : goal.loop-i-preserved-then-not-is_own
loop-i-preserved-then-not-is_own c = search making

pub loop-i-preserved : goal.loop-i-preserved
loop-i-preserved c = search (append_put, c.loop-i.invariant, c.loop-i-test.true, c.is_own.ensures, c.if-not-is_own.false, c.put_own.ensures, rules)

pub returns : goal.returns
returns c = search making
