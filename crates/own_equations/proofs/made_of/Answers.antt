-- `own_equations::made_of` meets its contract.
-- Assumes nothing.
use Rattle.own_equations.proofs.Cases.{cases}
use Rattle.own_equations.proofs.made_of.Goals as goal

pub returns-in-Err : goal.returns-in-Err
returns-in-Err c = search cases

pub returns-in-Ok : goal.returns-in-Ok
returns-in-Ok c = search cases
