-- `own_declarations::rows::put_own` meets its contract.
-- Assumes nothing.
use Rattle.own_declarations.proofs.Made.{making}
use Rattle.own_declarations.proofs.rows.put_own.Goals as goal

pub returns : goal.returns
returns c = search making
