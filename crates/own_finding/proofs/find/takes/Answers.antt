-- `own_finding::find::takes` meets its contract.
-- Assumes nothing.
use Rattle.form_rows.proofs.Auto.{on, done}
use Rattle.own_finding.proofs.Seeks.{sorts_on, sorts_off, sorts_all}
use borrow.Author.Rules.{rules}
use Rattle.own_finding.proofs.find.takes.Goals as goal

pub loop-j-preserved : goal.loop-j-preserved
loop-j-preserved c = on c.loop-j.invariant
    (sorts_on _ _ _ _ _ _ _ c.requires.2 c.loop-j-test.true (search rules) _ _ (search rules)
    c.word_at-own.ensures _ c.same_sort.ensures c.if-not-same_sort.false)

pub returns-then-not-same_sort : goal.returns-then-not-same_sort
returns-then-not-same_sort c = done c.loop-j.invariant
    (sorts_off _ _ _ _ _ _ _ c.requires.2 c.loop-j-test.true (search rules) _ _ (search rules)
    c.word_at-own.ensures _ c.same_sort.ensures c.if-not-same_sort.true)

pub returns : goal.returns
returns c = search (done, sorts_all, rules)
