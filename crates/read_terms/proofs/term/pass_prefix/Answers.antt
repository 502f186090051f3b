-- `read_terms::term::pass_prefix` meets its contract.
-- Assumes nothing.
use Rattle.read_terms.proofs.Cases.{prefix_passed, prefix_none}
use borrow.Author.Rules.{rules}
use Rattle.read_terms.proofs.term.pass_prefix.Goals as goal

pub returns-then-follows : goal.returns-then-follows
returns-then-follows c = search (prefix_passed, rules)

pub returns : goal.returns
returns c = search (prefix_none, rules)
