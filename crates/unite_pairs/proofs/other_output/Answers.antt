-- `unite_pairs::other_output` meets its contract. Assumes nothing.
use Rattle.unite_pairs.proofs.Cases.{cases}
use Rattle.unite_pairs.proofs.other_output.Goals as goal

pub returns-then-k-lt-FUNCTION : goal.returns-then-k-lt-FUNCTION
returns-then-k-lt-FUNCTION c = search cases

pub returns-then-l-lt-FUNCTION : goal.returns-then-l-lt-FUNCTION
returns-then-l-lt-FUNCTION c = search cases

pub returns : goal.returns
returns c = search cases
