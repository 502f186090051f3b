-- `read_steps::steps::step` meets its contract.
-- Assumes nothing.
use Rattle.read_steps.proofs.Cases.{cases}
use Rattle.read_steps.proofs.steps.step.Goals as goal

pub returns-in_err-p : goal.returns-in_err-p
returns-in_err-p c = search cases

pub returns : goal.returns
returns c = search cases
