-- `responding::refuse` meets its contract.
-- Assumes nothing.
use Rattle.responding.proofs.Cases.{cases}
use Rattle.responding.proofs.refuse.Goals as goal

pub returns-then-work-size : goal.returns-then-work-size
returns-then-work-size c = search cases

pub returns : goal.returns
returns c = search cases
