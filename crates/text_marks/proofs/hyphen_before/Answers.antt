-- `text_marks::hyphen_before` meets its contract.
-- Assumes nothing.
use Rattle.text_marks.proofs.Cases.{hyphen_there, hyphen_not, hyphen_end}
use borrow.Author.Rules.{rules}
use Rattle.text_marks.proofs.hyphen_before.Goals as goal

pub returns-then-text-i-eq45 : goal.returns-then-text-i-eq45
returns-then-text-i-eq45 c = search (hyphen_there, rules)

pub returns-else-text-i-eq45 : goal.returns-else-text-i-eq45
returns-else-text-i-eq45 c = search (hyphen_not, rules)

pub returns-else-i-text : goal.returns-else-i-text
returns-else-i-text c = search (hyphen_end, rules)
