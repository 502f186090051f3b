-- `text_marks::byte_before` meets its contract.
-- Assumes nothing.
use Rattle.text_marks.proofs.Cases.{before_first, before_other}
use borrow.Author.Rules.{rules}
use Rattle.text_marks.proofs.byte_before.Goals as goal

pub returns-then-i-gt0 : goal.returns-then-i-gt0
returns-then-i-gt0 c = search (before_other, rules)

pub returns-else-i-gt0 : goal.returns-else-i-gt0
returns-else-i-gt0 c = search (before_first, rules)
