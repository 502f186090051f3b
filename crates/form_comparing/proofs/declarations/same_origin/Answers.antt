-- `form_comparing::declarations::same_origin` meets its contract.
-- Assumes nothing.
use Rattle.form_comparing.proofs.Told.{origin_told, origin_homes, origin_declared}
use borrow.Author.Rules.{rules}
use Rattle.form_comparing.proofs.declarations.same_origin.Goals as goal

pub returns-then-same_word : goal.returns-then-same_word
returns-then-same_word c = search (origin_told, rules)

pub returns-else-same_word : goal.returns-else-same_word
returns-else-same_word c = search (origin_homes, rules)

pub returns-then-not-same_declared : goal.returns-then-not-same_declared
returns-then-not-same_declared c = search (origin_declared, rules)
