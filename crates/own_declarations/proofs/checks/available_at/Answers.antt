-- `own_declarations::checks::available_at` meets its contract.
-- Assumes nothing.
use Rattle.own_declarations.proofs.Told.{checking}
use Rattle.own_declarations.proofs.checks.available_at.Goals as goal

pub returns-then-lacks_sort : goal.returns-then-lacks_sort
returns-then-lacks_sort c = search checking

pub returns : goal.returns
returns c = search checking
