-- `unite_pairs::other_origin` meets its contract. Assumes nothing.
use Rattle.unite_pairs.proofs.Cases.{cases}
use Rattle.unite_pairs.proofs.other_origin.Goals as goal

pub returns : goal.returns
returns c = search cases
