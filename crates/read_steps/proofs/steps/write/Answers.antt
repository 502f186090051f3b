-- `read_steps::steps::write` meets its contract.
-- Assumes nothing.
use Rattle.read_steps.proofs.Cases.{cases}
use Rattle.read_steps.proofs.steps.write.Goals as goal

pub returns-then-n-tape : goal.returns-then-n-tape
returns-then-n-tape c = search cases

pub returns-in_err-p : goal.returns-in_err-p
returns-in_err-p c = search cases

pub returns : goal.returns
returns c = search cases
