-- The cycle of calls {put_deep, put_more} meets its contracts. Two for each level that is left, and one more for what follows a first argument.
use Rattle.list_terms.proofs.PlaceCases.{closing_again, closing_end}
use Rattle.list_terms.proofs.PlaceCases.{backing_again, backing_end}
use borrow.Author.Rules.{rules}
use Rattle.list_terms.proofs.terms.+writing.Goals as goal

pub put_deep-loop-n-preserved : goal.put_deep-loop-n-preserved
put_deep-loop-n-preserved t c = backing_again _ _ _ _ _ _ _ _ _ _ c.loop-n.invariant c.loop-n-test.true _ _ _ c.others_at-left.ensures
    c.put_more.ensures

pub put_deep-returns : goal.put_deep-returns
put_deep-returns t c = search (backing_end, c.put_heads-heads.ensures, c.loop-n.invariant, c.loop-n-test.false)

pub put_more-loop-preserved : goal.put_more-loop-preserved
put_more-loop-preserved t c = closing_again _ _ _ _ _ _ _ _ _ c.loop.invariant _ _ _ _ c.loop-test.true c.put_mark.ensures
    c.put_deep.ensures

pub put_more-returns : goal.put_more-returns
put_more-returns t c = search (closing_end, rules)
