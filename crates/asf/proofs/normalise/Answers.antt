-- `asf::normalise` meets its contract. Assumes nothing.
use Rattle.asf.proofs.Cases.{call_over}
use borrow.Author.Rules.{rules}
use Rattle.asf.proofs.normalise.Goals as goal

pub returns : goal.returns
returns c = search (call_over, rules)
