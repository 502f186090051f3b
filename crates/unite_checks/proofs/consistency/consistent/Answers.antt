-- `unite_checks::consistency::consistent` meets its contract. Assumes nothing.
use Rattle.unite_checks.proofs.VerdictCases.{cases}
use Rattle.unite_checks.proofs.consistency.consistent.Goals as goal

pub order_names-requires : goal.order_names-requires
order_names-requires c = search cases

pub check_rows-requires : goal.check_rows-requires
check_rows-requires c = search cases

pub returns-in-Some : goal.returns-in-Some
returns-in-Some c = search cases

pub returns-in-None : goal.returns-in-None
returns-in-None c = search cases
