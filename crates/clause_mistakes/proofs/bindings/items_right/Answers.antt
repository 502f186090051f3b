-- `clause_mistakes::bindings::items_right` meets its contract.
-- Assumes nothing.
use Rattle.clause_mistakes.proofs.BindingCases.{items}
use Rattle.clause_mistakes.proofs.bindings.items_right.Goals as goal

pub returns-then-all_right-2 : goal.returns-then-all_right-2
returns-then-all_right-2 c = search items

pub returns-then-all_right : goal.returns-then-all_right
returns-then-all_right c = search items

pub returns : goal.returns
returns c = search items
