-- `read_kept::kept::kept` meets its contract.
-- Assumes nothing.
use Rattle.read_kept.proofs.Cases.{kept_done, kept_refused}
use borrow.Author.Rules.{rules}
use Rattle.read_kept.proofs.kept.kept.Goals as goal

pub returns-then-number-eq0 : goal.returns-then-number-eq0
returns-then-number-eq0 c = search (kept_done, rules)

pub returns : goal.returns
returns c = search (kept_refused, rules)
