-- `list_terms::equations::put_conditions` meets its contract.
-- Assumes nothing.
use borrow.Author.Rules.{rules}
use Rattle.list_terms.proofs.TermCases.{listing_again, terms}
use Rattle.list_terms.proofs.equations.put_conditions.Goals as goal

pub returns-then-more-eq0 : goal.returns-then-more-eq0
returns-then-more-eq0 c = search terms

pub loop-more-preserved : goal.loop-more-preserved
loop-more-preserved c = listing_again _ _ _ _ _ _ _ _ _ _ c.loop-more.invariant _ _ c.put_sides-p.ensures c.loop-more-test.true _ _ c.if-more-eq0.false (search rules)
    c.put-to.ensures

pub returns : goal.returns
returns c = search terms
