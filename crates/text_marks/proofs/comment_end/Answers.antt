-- `text_marks::comment_end` meets its contract.
-- Assumes nothing.
use Rattle.text_names.proofs.Auto.{told}
use Rattle.text_marks.proofs.Cases.{opens_fits, comment_line, comment_pair, comment_open, comment_none}
use borrow.Author.Rules.{rules}
use Rattle.text_marks.proofs.comment_end.Goals as goal

pub overflow_add-i : goal.overflow_add-i
overflow_add-i c = search (opens_fits, rules)

pub returns-then-is_newline : goal.returns-then-is_newline
returns-then-is_newline c = search (comment_line, told, rules)

pub returns-then-k-text : goal.returns-then-k-text
returns-then-k-text c = search (comment_pair, told, rules)

pub returns-else-k-text : goal.returns-else-k-text
returns-else-k-text c = search (comment_open, told, rules)

pub returns-else-opens : goal.returns-else-opens
returns-else-opens c = search (comment_none, told, rules)
