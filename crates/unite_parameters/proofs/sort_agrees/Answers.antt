-- `unite_parameters::sort_agrees` meets its contract.
-- Assumes nothing.
use Rattle.unite_parameters.proofs.Cases.{sorts}
use Rattle.unite_parameters.proofs.sort_agrees.Goals as goal

pub returns-then-s-eq0 : goal.returns-then-s-eq0
returns-then-s-eq0 c = search sorts

pub returns : goal.returns
returns c = search sorts
