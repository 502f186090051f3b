-- `unite::unite_parameter` meets its contract.
-- Assumes nothing.
use Rattle.unite.proofs.Slots.{slots}
use Rattle.unite.proofs.unite_parameter.Goals as goal

pub returns-then-is_parameter_of : goal.returns-then-is_parameter_of
returns-then-is_parameter_of c = search slots

pub returns : goal.returns
returns c = search slots
