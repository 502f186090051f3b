-- `answer::name_in` meets its contract. Assumes nothing.
use Rattle.answer.proofs.Cases.{cases}
use Rattle.answer.proofs.name_in.Goals as goal

pub returns : goal.returns
returns c = search cases
