-- `text_tokens::equals_at` meets its contract.
-- Assumes nothing.
use Rattle.text_names.proofs.Auto.{on, told}
use Rattle.text_tokens.proofs.Cases.{equals_implies, equals_more, equals_end, equals_one}
use borrow.Author.Rules.{rules}
use Rattle.text_tokens.proofs.equals_at.Goals as goal

pub returns-then-contains : goal.returns-then-contains
returns-then-contains c = search (on, equals_implies, told, rules)

pub returns-else-contains : goal.returns-else-contains
returns-else-contains c = search (on, equals_more, told, rules)

pub returns-else-j-text : goal.returns-else-j-text
returns-else-j-text c = search (on, equals_end, rules)

pub returns-else-i-j : goal.returns-else-i-j
returns-else-i-j c = search (on, equals_one, rules)
