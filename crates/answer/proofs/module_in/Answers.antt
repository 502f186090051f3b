-- `answer::module_in` meets its contract. Assumes nothing.
use Rattle.answer.proofs.Cases.{cases}
use Rattle.answer.proofs.module_in.Goals as goal

pub returns-then-size-gt-NAME_SIZE : goal.returns-then-size-gt-NAME_SIZE
returns-then-size-gt-NAME_SIZE c = search cases

pub returns : goal.returns
returns c = search cases
