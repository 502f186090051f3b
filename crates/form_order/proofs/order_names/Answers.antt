-- `form_order::order_names` meets its contract. Assumes nothing.
use Rattle.form_order.proofs.Cases.{cases}
use Rattle.form_order.proofs.order_names.Goals as goal

pub loop-r-init : goal.loop-r-init
loop-r-init c = search cases
