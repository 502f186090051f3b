-- `list_pen::put_token` meets its contract.
-- Assumes nothing.
use Rattle.list_pen.proofs.Cases.{token_left, token_over, token_right}
use borrow.Author.Rules.{rules}
use Rattle.list_pen.proofs.put_token.Goals as goal

pub returns-then-left-size : goal.returns-then-left-size
returns-then-left-size c = search (token_over, rules)

pub returns-then-start-n : goal.returns-then-start-n
returns-then-start-n c = search (token_left, rules)

pub returns : goal.returns
returns c = search (token_right, rules)
