-- `read_terms::term::insert` meets its contract.
-- Assumes nothing.
use Rattle.read_terms.proofs.Cases.{cases}
use Rattle.read_terms.proofs.term.insert.Goals as goal

pub returns-then-n-tape : goal.returns-then-n-tape
returns-then-n-tape c = search (c.in_ok-p.was, cases)

pub returns-in_err-p : goal.returns-in_err-p
returns-in_err-p c = search cases

pub returns : goal.returns
returns c = search (c.in_ok-p.was, cases)
