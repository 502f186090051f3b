-- `read_kept::kept::not_here` meets its contract.
-- Assumes nothing.
use Rattle.read_kept.proofs.Cases.{kept_still}
use borrow.Author.Rules.{rules}
use Rattle.read_kept.proofs.kept.not_here.Goals as goal

pub returns : goal.returns
returns c = search (kept_still, rules)
