-- `own_terms::terms::operators_from` meets its contract.
-- Assumes nothing.
use mathlib.Core.Path.{refl}
use borrow.Author.Rules.{rules}
use Rattle.own_terms.proofs.Operators.{row_again, onward}
use Rattle.own_terms.proofs.terms.operators_from.Goals as goal

pub loop-words-init : goal.loop-words-init
loop-words-init c = search onward

pub returns-then-a-eq0 : goal.returns-then-a-eq0
returns-then-a-eq0 c = search onward

pub overflow_add-word : goal.overflow_add-word
overflow_add-word c = search onward

pub loop-words-preserved : goal.loop-words-preserved
loop-words-preserved c = row_again _ _ _ _ _ _ _ c.loop-words.invariant _ c.operands_at-a.ensures c.if-a-eq0.false c.if-n-eq-ROW.false _ _ refl
    c.loop-words-test.true (search rules) c.descend.ensures
