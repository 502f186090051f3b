-- `unite::unite` meets its contract.
-- Assumes nothing.
use Rattle.unite.specs.Whole.{hidden_room, united}
use borrow.Author.Rules.{rules}
use Rattle.unite.proofs.unite.Goals as goal

pub unite_hidden-requires : goal.unite_hidden-requires
unite_hidden-requires c = search (hidden_room, rules)

pub returns : goal.returns
returns c = search (united, rules)
