-- `unite_pairs::in_one_parameter` meets its contract. Assumes nothing.
use Rattle.unite_pairs.proofs.Cases.{cases}
use Rattle.unite_pairs.proofs.in_one_parameter.Goals as goal

pub returns-in-Parameter-Parameter : goal.returns-in-Parameter-Parameter
returns-in-Parameter-Parameter c = search cases

pub returns-in_default : goal.returns-in_default
returns-in_default c = search cases

pub returns-in_default-2 : goal.returns-in_default-2
returns-in_default-2 c = search cases
