-- `evaluate_storing::write_row` meets its contract. Assumes nothing.
use Rattle.evaluate_storing.proofs.Cases.{cases}
use Rattle.evaluate_storing.proofs.write_row.Goals as goal

pub returns : goal.returns
returns c = search cases
