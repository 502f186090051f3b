-- `list_keeping::keep_items` meets its contract. Assumes nothing.
use Rattle.list_keeping.proofs.Cases.{keeps}
use Rattle.list_keeping.proofs.keep_items.Goals as goal

pub returns : goal.returns
returns c = search keeps
