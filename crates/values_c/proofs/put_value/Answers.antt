-- `values_c::put_value` meets its contract. Assumes nothing.
use Rattle.values_c.proofs.Cases.{cases}
use Rattle.values_c.proofs.put_value.Goals as goal

pub returns-else-i-values : goal.returns-else-i-values
returns-else-i-values c = search cases
