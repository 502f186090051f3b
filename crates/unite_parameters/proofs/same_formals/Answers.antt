-- `unite_parameters::same_formals` meets its contract.
-- Assumes nothing.
use Rattle.unite_parameters.proofs.Cases.{both}
use Rattle.unite_parameters.proofs.same_formals.Goals as goal

pub returns-then-all_among : goal.returns-then-all_among
returns-then-all_among c = search both

pub returns : goal.returns
returns c = search both
