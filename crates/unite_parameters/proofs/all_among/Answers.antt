-- `unite_parameters::all_among` meets its contract.
-- Assumes nothing.
use Rattle.unite_parameters.proofs.Cases.{walks}
use Rattle.unite_parameters.proofs.all_among.Goals as goal

pub returns-then-is_other : goal.returns-then-is_other
returns-then-is_other c = search walks

pub loop-i-preserved : goal.loop-i-preserved
loop-i-preserved c = search walks

pub returns : goal.returns
returns c = search walks
