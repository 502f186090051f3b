-- `unite_checks::clashes::name_by` meets its contract. Assumes nothing.
use Rattle.unite_checks.proofs.SearchCases.{cases}
use Rattle.unite_checks.proofs.clashes.name_by.Goals as goal

pub returns : goal.returns
returns c = search cases
