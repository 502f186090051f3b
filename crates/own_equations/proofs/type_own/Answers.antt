-- `own_equations::type_own` meets its contract.
-- Assumes nothing.
use Rattle.own_equations.proofs.Cases.{cases}
use Rattle.own_equations.proofs.type_own.Goals as goal

pub returns : goal.returns
returns c = search cases
