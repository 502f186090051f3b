-- `text_tokens::next_token` meets its contract.
-- Assumes nothing.
use Rattle.text_tokens.proofs.Cases.{token_law}
use borrow.Author.Rules.{rules}
use Rattle.text_tokens.proofs.next_token.Goals as goal

pub returns : goal.returns
returns c = search (token_law, rules)
