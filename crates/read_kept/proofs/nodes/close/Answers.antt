-- `read_kept::nodes::close` meets its contract.
-- Assumes nothing.
use Rattle.read_kept.proofs.Cases.{kept_onward}
use borrow.Author.Rules.{rules}
use Rattle.read_kept.proofs.nodes.close.Goals as goal

pub returns : goal.returns
returns c = search (kept_onward, rules)
