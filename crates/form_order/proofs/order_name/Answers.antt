-- `form_order::order_name` meets its contract. Assumes nothing.
use Rattle.form_order.proofs.Cases.{cases}
use Rattle.form_order.proofs.order_name.Goals as goal

pub returns : goal.returns
returns c = search cases
