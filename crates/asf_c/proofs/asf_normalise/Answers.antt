-- `asf_c::asf_normalise` meets its contract. Assumes nothing.
use Rattle.asf_c.proofs.Cases.{cases}
use Rattle.asf_c.proofs.asf_normalise.Goals as goal

pub returns : goal.returns
returns c = search cases
