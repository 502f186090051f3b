-- `text_spelling::same_wherever` meets its contract.
-- Assumes nothing.
use borrow.Author.Rules.{rules}
use Rattle.text_spelling.proofs.Auto.{on, done}
use Rattle.text_spelling.proofs.Joined.{cases, across_not, across_off, across_on, across_end}
use Rattle.text_spelling.proofs.same_wherever.Goals as goal

pub returns-then-n-name_size : goal.returns-then-n-name_size
returns-then-n-name_size c = search (across_not, rules)

pub loop-i-init : goal.loop-i-init
loop-i-init c = search cases

pub returns-then-p-q : goal.returns-then-p-q
returns-then-p-q c = done c.loop-i.invariant
    (across_off _ _ _ _ c.name_size-n.ensures c.name_size.ensures _ _ _ c.if-n-name_size.false c.loop-i-test.true
    c.name_byte-p.ensures c.name_byte-q.ensures c.if-p-q.true)

pub loop-i-preserved : goal.loop-i-preserved
loop-i-preserved c = on c.loop-i.invariant
    (across_on _ _ _ _ c.name_size-n.ensures c.name_size.ensures _ _ _ c.if-n-name_size.false c.loop-i-test.true
    c.name_byte-p.ensures c.name_byte-q.ensures c.if-p-q.false)

pub returns : goal.returns
returns c = done c.loop-i.invariant
    (across_end _ _ _ _ c.name_size-n.ensures c.name_size.ensures _ c.if-n-name_size.false c.loop-i-test.false)
