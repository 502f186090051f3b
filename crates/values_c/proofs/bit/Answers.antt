-- `values_c::bit` meets its contract. Assumes nothing.
use Rattle.values_c.proofs.Cases.{cases}
use Rattle.values_c.proofs.bit.Goals as goal

pub returns : goal.returns
returns c = search cases
