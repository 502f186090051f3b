-- `own_declarations::sorts::declares_seen` meets its contract.
-- Assumes nothing.
use Rattle.own_declarations.proofs.Cases.{cases}
use Rattle.own_declarations.proofs.sorts.declares_seen.Goals as goal

pub returns : goal.returns
returns c = search cases
