-- `own_declarations::rows::function_sorts` meets its contract.
-- Assumes nothing.
use Rattle.own_declarations.proofs.Made.{making}
use Rattle.own_declarations.proofs.rows.function_sorts.Goals as goal

pub returns : goal.returns
returns c = search making
