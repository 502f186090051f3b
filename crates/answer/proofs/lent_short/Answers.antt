-- `answer::lent_short` meets its contract. Assumes nothing.
use Rattle.answer.proofs.Cases.{cases}
use Rattle.answer.proofs.lent_short.Goals as goal

pub returns : goal.returns
returns c = search cases
