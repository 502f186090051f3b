-- `text_tokens::start_at` meets its contract.
-- Assumes nothing.
use Rattle.text_names.proofs.Auto.{on, told}
use Rattle.text_tokens.proofs.Cases.{start_mark, start_word, start_equals, start_sign, start_end}
use borrow.Author.Rules.{rules}
use Rattle.text_tokens.proofs.start_at.Goals as goal

pub returns-then-is_word : goal.returns-then-is_word
returns-then-is_word c = search (start_word, told, rules)

pub returns-then-is_mark : goal.returns-then-is_mark
returns-then-is_mark c = search (on, start_mark, told, rules)

pub returns-then-b-eq61 : goal.returns-then-b-eq61
returns-then-b-eq61 c = search (start_equals, told, rules)

pub returns-then-i-text : goal.returns-then-i-text
returns-then-i-text c = search (start_sign, told, rules)

pub returns : goal.returns
returns c = search (on, start_end, rules)
