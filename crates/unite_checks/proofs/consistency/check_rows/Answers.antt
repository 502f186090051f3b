-- `unite_checks::consistency::check_rows` meets its contract. Assumes nothing.
use Rattle.unite_checks.proofs.VerdictCases.{cases}
use Rattle.unite_checks.proofs.consistency.check_rows.Goals as goal

pub order_names-requires : goal.order_names-requires
order_names-requires c = search cases

pub returns : goal.returns
returns c = search cases
