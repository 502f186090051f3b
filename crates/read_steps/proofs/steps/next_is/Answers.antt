-- `read_steps::steps::next_is` meets its contract.
-- Assumes nothing.
use Rattle.read_steps.proofs.Cases.{cases}
use Rattle.read_steps.proofs.steps.next_is.Goals as goal

pub returns-in-Err : goal.returns-in-Err
returns-in-Err c = search cases

pub returns-in-Ok : goal.returns-in-Ok
returns-in-Ok c = search cases
