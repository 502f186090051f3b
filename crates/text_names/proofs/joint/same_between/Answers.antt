-- `text_names::joint::same_between` meets its contract.
-- Assumes nothing.
use Rattle.text_places.proofs.Places.{alone_same}
use borrow.Author.Rules.{rules}
use Rattle.text_names.proofs.joint.same_between.Goals as goal

pub returns : goal.returns
returns c = search (alone_same, rules)
