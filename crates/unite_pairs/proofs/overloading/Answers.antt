-- `unite_pairs::overloading` meets its contract. Assumes nothing.
use Rattle.unite_pairs.proofs.Cases.{cases}
use Rattle.unite_pairs.proofs.overloading.Goals as goal

pub returns-then-other_output : goal.returns-then-other_output
returns-then-other_output c = search cases

pub returns : goal.returns
returns c = search cases
