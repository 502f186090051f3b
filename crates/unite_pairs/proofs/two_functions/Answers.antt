-- `unite_pairs::two_functions` meets its contract. Assumes nothing.
use Rattle.unite_pairs.proofs.Cases.{cases}
use Rattle.unite_pairs.proofs.two_functions.Goals as goal

pub returns-then-k-lt-FUNCTION : goal.returns-then-k-lt-FUNCTION
returns-then-k-lt-FUNCTION c = search cases

pub returns-then-same_shape : goal.returns-then-same_shape
returns-then-same_shape c = search cases

pub returns : goal.returns
returns c = search cases
