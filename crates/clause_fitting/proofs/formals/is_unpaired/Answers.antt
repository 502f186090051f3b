-- `clause_fitting::formals::is_unpaired` meets its contract.
-- Assumes nothing.
use Rattle.clause_fitting.proofs.FormalCases.{items}
use Rattle.clause_fitting.proofs.formals.is_unpaired.Goals as goal

pub returns-in-Some : goal.returns-in-Some
returns-in-Some c = search items

pub returns-in-None : goal.returns-in-None
returns-in-None c = search items

pub returns-else-in_parameter : goal.returns-else-in_parameter
returns-else-in_parameter c = search items
