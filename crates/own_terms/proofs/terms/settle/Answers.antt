use Rattle.own_terms.proofs.Cases.{cases}
use Rattle.own_terms.proofs.terms.settle.Goals as goal

pub returns : goal.returns
returns c = search cases
