-- `evaluate_storing::scratch_start` meets its contract. Assumes nothing.
use Rattle.evaluate_storing.proofs.Cases.{cases}
use Rattle.evaluate_storing.proofs.scratch_start.Goals as goal

pub returns : goal.returns
returns c = search cases
