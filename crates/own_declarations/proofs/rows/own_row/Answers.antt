-- `own_declarations::rows::own_row` meets its contract.
-- Assumes nothing.
use Rattle.own_declarations.proofs.Made.{making}
use Rattle.own_declarations.proofs.rows.own_row.Goals as goal

pub own_sorts-sorts-requires : goal.own_sorts-sorts-requires
own_sorts-sorts-requires c = search making

pub returns : goal.returns
returns c = search making
