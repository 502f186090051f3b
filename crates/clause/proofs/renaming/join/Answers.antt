use Rattle.clause.proofs.renaming.Cases.{cases}
use Rattle.clause.proofs.renaming.join.Goals as goal

pub unite-u-requires : goal.unite-u-requires
unite-u-requires c = search cases

pub checked-requires : goal.checked-requires
checked-requires c = search cases

pub returns : goal.returns
returns c = search cases
