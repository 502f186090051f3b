-- `list_keeping::put_parameters` meets its contract. Assumes nothing.
use Rattle.list_keeping.proofs.Cases.{cases}
use Rattle.list_keeping.proofs.put_parameters.Goals as goal

pub returns : goal.returns
returns c = search cases
