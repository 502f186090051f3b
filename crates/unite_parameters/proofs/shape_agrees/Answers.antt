-- `unite_parameters::shape_agrees` meets its contract.
-- Assumes nothing.
use Rattle.unite_parameters.proofs.Cases.{sorts}
use Rattle.unite_parameters.proofs.shape_agrees.Goals as goal

pub returns-then-kind-lt-FUNCTION : goal.returns-then-kind-lt-FUNCTION
returns-then-kind-lt-FUNCTION c = search sorts

pub returns : goal.returns
returns c = search sorts
