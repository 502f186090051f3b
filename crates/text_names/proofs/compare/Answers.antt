-- `text_names::compare` meets its contract.
-- Assumes nothing.
use Rattle.text_names.proofs.Joined.{alone_compared}
use borrow.Author.Rules.{rules}
use Rattle.text_names.proofs.compare.Goals as goal

pub returns : goal.returns
returns c = search (alone_compared, rules)
