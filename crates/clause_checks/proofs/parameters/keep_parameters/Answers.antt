-- `clause_checks::parameters::keep_parameters` meets its contract.
-- Assumes nothing.
use Rattle.clause_checks.proofs.ParameterCases.{keepings}
use Rattle.clause_checks.proofs.parameters.keep_parameters.Goals as goal

pub loop-k-init : goal.loop-k-init
loop-k-init c = search keepings

pub keep_parameter-n-requires : goal.keep_parameter-n-requires
keep_parameter-n-requires c = search keepings

pub loop-k-preserved : goal.loop-k-preserved
loop-k-preserved c = search keepings

pub shape_of-work : goal.shape_of-work
shape_of-work c = search keepings

pub returns : goal.returns
returns c = search keepings
