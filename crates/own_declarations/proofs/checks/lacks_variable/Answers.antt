-- `own_declarations::checks::lacks_variable` meets its contract.
-- Assumes nothing.
use Rattle.own_declarations.proofs.Told.{checking}
use Rattle.own_declarations.proofs.checks.lacks_variable.Goals as goal

pub returns : goal.returns
returns c = search checking
