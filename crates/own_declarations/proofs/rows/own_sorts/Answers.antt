-- `own_declarations::rows::own_sorts` meets its contract.
-- Assumes nothing.
use Rattle.own_declarations.proofs.Made.{making}
use Rattle.own_declarations.proofs.rows.own_sorts.Goals as goal

pub returns-then-kind-eq-VARIABLE : goal.returns-then-kind-eq-VARIABLE
returns-then-kind-eq-VARIABLE c = search making

pub returns : goal.returns
returns c = search making
