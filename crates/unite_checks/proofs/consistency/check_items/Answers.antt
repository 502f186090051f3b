-- `unite_checks::consistency::check_items` meets its contract. Assumes nothing.
use Rattle.unite_checks.proofs.VerdictCases.{cases}
use Rattle.unite_checks.proofs.consistency.check_items.Goals as goal

pub returns-in-Some : goal.returns-in-Some
returns-in-Some c = search cases

pub returns-in-None : goal.returns-in-None
returns-in-None c = search cases
