-- `text_marks::in_comment` meets its contract.
-- Assumes nothing.
use Rattle.text_names.proofs.Auto.{told}
use Rattle.text_marks.proofs.Cases.{inside_line, inside_pair, inside_on}
use borrow.Author.Rules.{rules}
use Rattle.text_marks.proofs.in_comment.Goals as goal

pub returns-then-is_newline : goal.returns-then-is_newline
returns-then-is_newline c = search (inside_line, told, rules)

pub returns-then-at_dashes : goal.returns-then-at_dashes
returns-then-at_dashes c = search (inside_pair, told, rules)

pub returns : goal.returns
returns c = search (inside_on, told, rules)
