-- `own_declarations::rows::input_sorts` meets its contract.
-- Assumes nothing.
use Rattle.own_declarations.proofs.Made.{making}
use Rattle.own_declarations.proofs.rows.input_sorts.Goals as goal

pub loop-i-preserved : goal.loop-i-preserved
loop-i-preserved c = search making

pub returns : goal.returns
returns c = search making
