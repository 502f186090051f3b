-- `unite_pairs::two_sorts` meets its contract. Assumes nothing.
use Rattle.unite_pairs.proofs.Cases.{cases}
use Rattle.unite_pairs.proofs.two_sorts.Goals as goal

pub returns-then-k-ne0 : goal.returns-then-k-ne0
returns-then-k-ne0 c = search cases

pub returns-then-l-ne0 : goal.returns-then-l-ne0
returns-then-l-ne0 c = search cases

pub returns : goal.returns
returns c = search cases
