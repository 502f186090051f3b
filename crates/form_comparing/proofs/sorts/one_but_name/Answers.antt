-- `form_comparing::sorts::one_but_name` meets its contract.
-- Assumes nothing.
use Rattle.form_comparing.proofs.Alike.{item_standings, item_origins, item_shapes}
use borrow.Author.Rules.{rules}
use Rattle.form_comparing.proofs.sorts.one_but_name.Goals as goal

pub returns-then-same_origin : goal.returns-then-same_origin
returns-then-same_origin c = search (item_standings, rules)

pub returns-else-same_origin : goal.returns-else-same_origin
returns-else-same_origin c = search (item_origins, rules)

pub returns-then-not-same_shape : goal.returns-then-not-same_shape
returns-then-not-same_shape c = search (item_shapes, rules)
