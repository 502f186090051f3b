-- `read_terms::term::pass_token` meets its contract.
-- Assumes nothing.
use Rattle.read_terms.proofs.Cases.{token_between, token_else}
use borrow.Author.Rules.{rules}
use Rattle.read_terms.proofs.term.pass_token.Goals as goal

pub returns-then-between : goal.returns-then-between
returns-then-between c = search (token_between, rules)

pub returns : goal.returns
returns c = search (token_else, rules)
