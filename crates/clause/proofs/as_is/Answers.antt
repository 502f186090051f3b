-- `clause::as_is` meets its contract.
-- Assumes nothing.
use borrow.Author.Rules.{rules}
use Rattle.clause.specs.Rooms.{as_is}
use Rattle.clause.proofs.as_is.Goals as goal

pub returns : goal.returns
unfolding as_is
returns c = search rules
