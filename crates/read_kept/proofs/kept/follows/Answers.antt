-- `read_kept::kept::follows` meets its contract.
-- Assumes nothing.
use Rattle.read_kept.proofs.Cases.{kept_passes}
use borrow.Author.Rules.{rules}
use Rattle.read_kept.proofs.kept.follows.Goals as goal

pub returns : goal.returns
returns c = search (kept_passes, rules)
