-- `unite_parameters::origins_agree` meets its contract.
-- Assumes nothing.
use Rattle.unite_parameters.proofs.Cases.{sorts}
use Rattle.unite_parameters.proofs.origins_agree.Goals as goal

pub returns-then-j-m : goal.returns-then-j-m
returns-then-j-m c = search sorts

pub returns-then-i-n : goal.returns-then-i-n
returns-then-i-n c = search sorts

pub returns : goal.returns
returns c = search sorts
