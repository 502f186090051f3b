-- `clause::bound_hidden` meets its contract.
-- Assumes nothing.
use Rattle.clause.specs.HiddenSteps.{actual_hidden_room}
use Rattle.clause.proofs.Cases.{hidden}
use Rattle.clause.proofs.bound_hidden.Goals as goal

pub unite_hidden-own-requires : goal.unite_hidden-own-requires
unite_hidden-own-requires c = search hidden

pub unite_hidden-requires : goal.unite_hidden-requires
unite_hidden-requires c = search (actual_hidden_room, c.requires, c.unite_hidden-own.ensures, c.as_is.ensures)

pub returns : goal.returns
returns c = search hidden
