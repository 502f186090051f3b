-- `text_names::is_called` meets its contract.
-- Assumes nothing.
use Rattle.text_names.proofs.Joined.{alone_called}
use borrow.Author.Rules.{rules}
use Rattle.text_names.proofs.is_called.Goals as goal

pub returns : goal.returns
returns c = search (alone_called, rules)
