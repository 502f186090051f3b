-- `clause::binding_mode` meets its contract.
-- Assumes nothing.
use borrow.Author.Rules.{rules}
use Rattle.clause.specs.Rooms.{binding_mode}
use Rattle.clause.proofs.binding_mode.Goals as goal

pub returns : goal.returns
unfolding binding_mode
returns c = search rules
