-- `text_marks::comment_sign` meets its contract.
-- Assumes nothing.
use Rattle.text_names.proofs.Auto.{told}
use Rattle.text_marks.proofs.Cases.{sign_first, sign_layout, sign_hyphen, sign_none}
use borrow.Author.Rules.{rules}
use Rattle.text_marks.proofs.comment_sign.Goals as goal

pub returns-then-i-eq0 : goal.returns-then-i-eq0
returns-then-i-eq0 c = search (sign_first, told, rules)

pub returns-then-is_layout : goal.returns-then-is_layout
returns-then-is_layout c = search (sign_layout, told, rules)

pub returns-then-at_dashes : goal.returns-then-at_dashes
returns-then-at_dashes c = search (sign_hyphen, told, rules)

pub returns : goal.returns
returns c = search (sign_none, told, rules)
