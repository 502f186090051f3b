-- `parts_c::put_places` meets its contract. Assumes nothing.
use Rattle.parts_c.proofs.Cases.{cases}
use Rattle.parts_c.proofs.put_places.Goals as goal

pub returns : goal.returns
returns c = search cases
