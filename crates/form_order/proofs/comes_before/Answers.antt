-- `form_order::comes_before` meets its contract. Assumes nothing.
use Rattle.form_order.proofs.Cases.{cases}
use Rattle.form_order.proofs.comes_before.Goals as goal

pub returns : goal.returns
returns c = search cases
