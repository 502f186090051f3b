-- `list_keeping::put_hidden` meets its contract. Assumes nothing.
use Rattle.list_keeping.proofs.Cases.{cases}
use Rattle.list_keeping.proofs.put_hidden.Goals as goal

pub returns : goal.returns
returns c = search cases
