-- `own_declarations::sorts::hidden_place` meets its contract.
-- Assumes nothing.
use Rattle.own_declarations.proofs.Cases.{cases}
use Rattle.own_declarations.proofs.sorts.hidden_place.Goals as goal

pub returns : goal.returns
returns c = search cases
