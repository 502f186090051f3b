-- `clause::bound_rows` meets its contract.
-- Assumes nothing.
use Rattle.clause.proofs.Cases.{rows}
use borrow.Author.Rules.{rules}
use Rattle.clause.proofs.bound_rows.Goals as goal

pub overflow_add-notes : goal.overflow_add-notes
overflow_add-notes c = search (c.requires.room.own.room.laid, rules)

pub unite_seen-requires : goal.unite_seen-requires
unite_seen-requires c = search rows

pub returns : goal.returns
returns c = search rows
