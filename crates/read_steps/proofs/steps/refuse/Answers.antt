-- `read_steps::steps::refuse` meets its contract.
-- Assumes nothing.
use Rattle.read_steps.proofs.Cases.{cases}
use Rattle.read_steps.proofs.steps.refuse.Goals as goal

pub returns-in_err-p : goal.returns-in_err-p
returns-in_err-p c = search cases

pub returns : goal.returns
returns c = search cases
