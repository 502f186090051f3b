-- `unite_parameters::is_parameter_of` meets its contract.
-- Assumes nothing.
use Rattle.unite_parameters.proofs.Cases.{both}
use Rattle.unite_parameters.proofs.is_parameter_of.Goals as goal

pub returns-then-has_slot : goal.returns-then-has_slot
returns-then-has_slot c = search both

pub returns : goal.returns
returns c = search both
