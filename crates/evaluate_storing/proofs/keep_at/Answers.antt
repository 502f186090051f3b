-- `evaluate_storing::keep_at` meets its contract. Assumes nothing.
use Rattle.evaluate_storing.proofs.Cases.{cases}
use Rattle.evaluate_storing.proofs.keep_at.Goals as goal

pub keep_in_order-requires : goal.keep_in_order-requires
keep_in_order-requires c = search cases

pub returns : goal.returns
returns c = search cases
