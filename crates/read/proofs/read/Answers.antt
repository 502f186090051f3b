-- `read::read` meets its contract.
-- Assumes nothing.
use Rattle.read.proofs.Cases.{cases}
use Rattle.read.proofs.read.Goals as goal

pub returns-then-text-gt-TEXT_SIZE : goal.returns-then-text-gt-TEXT_SIZE
returns-then-text-gt-TEXT_SIZE c = search cases

pub returns : goal.returns
returns c = search cases
