-- `own_terms::terms::type_term` meets its contract.
-- Assumes nothing.
use Rattle.own_terms.proofs.Deep.{whole_ill, whole_sorted, deeper}
use Rattle.own_terms.proofs.terms.type_term.Goals as goal

pub type_lent-back-requires : goal.type_lent-back-requires
type_lent-back-requires c = search deeper

pub returns-then-sort-eq0 : goal.returns-then-sort-eq0
returns-then-sort-eq0 c = whole_ill _ _ _ _ _ _ _ _ _ _ _ c.work-1.given.1.0 c.known_words-words.ensures c.type_lent-back.ensures c.if-sort-eq0.true

pub returns : goal.returns
returns c = whole_sorted _ _ _ _ _ _ _ _ _ _ _ c.work-1.given.1.0 c.known_words-words.ensures c.type_lent-back.ensures c.if-sort-eq0.false
