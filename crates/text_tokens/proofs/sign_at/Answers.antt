-- `text_tokens::sign_at` meets its contract.
-- Assumes nothing.
use Rattle.text_names.proofs.Auto.{on, told}
use Rattle.text_tokens.proofs.Cases.{sign_arrow, sign_comment, sign_operator, sign_dot, sign_bad}
use borrow.Author.Rules.{rules}
use Rattle.text_tokens.proofs.sign_at.Goals as goal

pub returns-then-hyphen_before : goal.returns-then-hyphen_before
returns-then-hyphen_before c = search (on, sign_arrow, told, rules)

pub returns-then-comment_sign : goal.returns-then-comment_sign
returns-then-comment_sign c = search (on, sign_comment, told, rules)

pub returns-then-is_symbol : goal.returns-then-is_symbol
returns-then-is_symbol c = search (on, sign_operator, told, rules)

pub returns-then-b-eq46 : goal.returns-then-b-eq46
returns-then-b-eq46 c = search (sign_dot, told, rules)

pub returns : goal.returns
returns c = search (on, sign_bad, told, rules)
