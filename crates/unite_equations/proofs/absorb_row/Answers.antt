-- `unite_equations::absorb_row` meets its contract.
-- Assumes nothing.
use Rattle.unite_equations.proofs.Turns.{turns}
use Rattle.unite_equations.proofs.absorb_row.Goals as goal

pub returns-then-nodes-used : goal.returns-then-nodes-used
returns-then-nodes-used c = search turns

pub returns-then-f-rows : goal.returns-then-f-rows
returns-then-f-rows c = search turns

pub returns : goal.returns
returns c = search turns
