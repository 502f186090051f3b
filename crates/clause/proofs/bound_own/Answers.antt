-- `clause::bound_own` meets its contract.
-- Assumes nothing.
use Rattle.clause.proofs.Cases.{own}
use Rattle.clause.proofs.bound_own.Goals as goal

pub keep_parameters-n-requires : goal.keep_parameters-n-requires
keep_parameters-n-requires c = search own

pub unite_visible-requires : goal.unite_visible-requires
unite_visible-requires c = search own

pub returns : goal.returns
returns c = search own
