-- `read_terms::term::pass_end` meets its contract.
-- Assumes nothing.
use Rattle.read_terms.proofs.Cases.{end_passed, end_other}
use borrow.Author.Rules.{rules}
use Rattle.read_terms.proofs.term.pass_end.Goals as goal

pub returns-then-follows : goal.returns-then-follows
returns-then-follows c = search (end_passed, rules)

pub returns : goal.returns
returns c = search (end_other, rules)
