-- `read_terms::term::read_term` meets its contract.
-- Assumes nothing.
use Rattle.read_kept.proofs.Cases.{kept_onward}
use borrow.Author.Rules.{rules}
use Rattle.read_terms.proofs.term.read_term.Goals as goal

pub returns : goal.returns
returns c = search (kept_onward, rules)
