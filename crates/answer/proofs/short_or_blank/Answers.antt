-- `answer::short_or_blank` meets its contract. Assumes nothing.
use Rattle.answer.proofs.Cases.{cases}
use Rattle.answer.proofs.short_or_blank.Goals as goal

pub returns-then-name-gt-NAME_SIZE : goal.returns-then-name-gt-NAME_SIZE
returns-then-name-gt-NAME_SIZE c = search cases

pub returns : goal.returns
returns c = search cases
