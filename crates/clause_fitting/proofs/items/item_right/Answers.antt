-- `clause_fitting::items::item_right` meets its contract.
-- Assumes nothing.
use Rattle.clause_fitting.proofs.ItemCases.{fits}
use Rattle.clause_fitting.proofs.items.item_right.Goals as goal

pub returns-then-by_type : goal.returns-then-by_type
returns-then-by_type c = search fits

pub returns : goal.returns
returns c = search fits
