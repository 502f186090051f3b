-- `own_terms::terms::operators_from` meets its contract.
-- Assumes nothing.
use lib.ListN.{get_or}
use Rattle.own_terms.proofs.Operators.{Going}
use Rattle.own_terms.proofs.terms.operators_from.Given as goal

abbrev pub invariant-loop-words : goal.invariant-loop-words
invariant-loop-words l = Going l.initial.words l.i l.q l.work l.n l.word l.words

abbrev pub decreases-loop-words : goal.decreases-loop-words
decreases-loop-words l = get_or l.words 7 0
