-- `read_kept::kept::entries_of` meets its contract.
-- Assumes nothing.
use Rattle.read_kept.proofs.Cases.{entries_some, entries_none}
use borrow.Author.Rules.{rules}
use Rattle.read_kept.proofs.kept.entries_of.Goals as goal

pub returns-then-state-eq0 : goal.returns-then-state-eq0
returns-then-state-eq0 c = search (entries_some, rules)

pub returns : goal.returns
returns c = search (entries_none, rules)
