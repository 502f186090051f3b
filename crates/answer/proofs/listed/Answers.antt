-- `answer::listed` meets its contract. Assumes nothing.
use Rattle.answer.proofs.Cases.{cases}
use Rattle.answer.proofs.listed.Goals as goal

pub returns : goal.returns
returns c = search cases
