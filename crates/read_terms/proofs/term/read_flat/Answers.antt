-- `read_terms::term::read_flat` meets its contract.
-- Assumes nothing.
use Rattle.read_terms.proofs.Cases.{flat_deep, flat_deep_too, primary_alone}
use borrow.Author.Rules.{rules}
use Rattle.read_terms.proofs.term.read_flat.Goals as goal

pub returns-then-follows : goal.returns-then-follows
returns-then-follows c = search (flat_deep, rules)

pub returns-then-follows-2 : goal.returns-then-follows-2
returns-then-follows-2 c = search (flat_deep_too, rules)

pub returns : goal.returns
returns c = search (primary_alone, rules)
