-- `read_kept::nodes::pass_name` meets its contract.
-- Assumes nothing.
use Rattle.read_kept.proofs.Cases.{kept_onward}
use borrow.Author.Rules.{rules}
use Rattle.read_kept.proofs.nodes.pass_name.Goals as goal

pub returns : goal.returns
returns c = search (kept_onward, rules)
