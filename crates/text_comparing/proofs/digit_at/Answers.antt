-- `text_comparing::digit_at` meets its contract.
-- Assumes nothing.
use Rattle.text_comparing.proofs.AtOnce.{digit_there, digit_past}
use borrow.Author.Rules.{rules}
use Rattle.text_comparing.proofs.digit_at.Goals as goal

pub returns-then-i-text : goal.returns-then-i-text
returns-then-i-text c = search (digit_there, rules)

pub returns : goal.returns
returns c = search (digit_past, rules)
