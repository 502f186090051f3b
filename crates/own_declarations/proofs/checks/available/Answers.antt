-- `own_declarations::checks::available` meets its contract.
-- Assumes nothing.
use Rattle.own_declarations.proofs.Told.{checking}
use Rattle.own_declarations.proofs.checks.available.Goals as goal

pub returns-in_err-available_at : goal.returns-in_err-available_at
returns-in_err-available_at c = search checking

pub loop-i-preserved : goal.loop-i-preserved
loop-i-preserved c = search checking

pub returns : goal.returns
returns c = search checking
