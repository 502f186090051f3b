-- `list_keeping::order_place` meets its contract. Assumes nothing.
use Rattle.list_keeping.proofs.Cases.{whole}
use Rattle.list_keeping.proofs.order_place.Goals as goal

pub returns : goal.returns
returns c = search whole
