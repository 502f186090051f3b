-- `list_keeping::keep_in_order` meets its contract. Assumes nothing.
use Rattle.list_keeping.proofs.Cases.{whole}
use Rattle.list_keeping.proofs.keep_in_order.Goals as goal

pub returns : goal.returns
returns c = search whole
