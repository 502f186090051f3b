-- `clause_pairs::renaming_word` meets its contract.
-- Assumes nothing.
use Rattle.clause_pairs.proofs.Cases.{pairs_start, pairs_end, pairs_stop, pairs_again, pairs_found}
use borrow.Author.Rules.{rules}
use Rattle.clause_pairs.proofs.renaming_word.Goals as goal

pub loop-k-init : goal.loop-k-init
loop-k-init c = search (pairs_start, rules)

pub returns-then-role_at-ne-OLD : goal.returns-then-role_at-ne-OLD
returns-then-role_at-ne-OLD c = search (pairs_stop, rules)

pub returns-then-same_word : goal.returns-then-same_word
returns-then-same_word c = search (pairs_found, rules)

pub loop-k-preserved : goal.loop-k-preserved
loop-k-preserved c = search (pairs_again, c.same_word.ensures, c.name_at.ensures, c.role_at.ensures, c.loop-k.invariant, rules)

pub returns : goal.returns
returns c = search (pairs_end, rules)
