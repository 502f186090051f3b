-- `values_c::put_three` meets its contract. Assumes nothing.
use Rattle.values_c.proofs.Cases.{cases}
use Rattle.values_c.proofs.put_three.Goals as goal

pub returns : goal.returns
returns c = search cases
