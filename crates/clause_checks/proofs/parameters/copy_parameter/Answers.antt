-- `clause_checks::parameters::copy_parameter` meets its contract.
-- Assumes nothing.
use Rattle.clause_checks.proofs.ParameterCases.{slots}
use Rattle.clause_checks.proofs.parameters.copy_parameter.Goals as goal

pub returns : goal.returns
returns c = search slots
