-- `clause_fitting::items::type_right` meets its contract.
-- Assumes nothing.
use Rattle.clause_fitting.proofs.ItemCases.{types}
use Rattle.clause_fitting.proofs.items.type_right.Goals as goal

pub returns-then-kind-lt-FUNCTION : goal.returns-then-kind-lt-FUNCTION
returns-then-kind-lt-FUNCTION c = search types

pub returns-then-sorts_right : goal.returns-then-sorts_right
returns-then-sorts_right c = search types

pub returns : goal.returns
returns c = search types
