-- `read_kept::kept::over` meets its contract.
-- Assumes nothing.
use Rattle.read_kept.proofs.Cases.{kept_still}
use borrow.Author.Rules.{rules}
use Rattle.read_kept.proofs.kept.over.Goals as goal

pub returns : goal.returns
returns c = search (kept_still, rules)
