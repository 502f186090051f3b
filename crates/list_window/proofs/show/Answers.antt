-- `list_window::show` meets its contract.
-- Assumes nothing.
use Rattle.list_window.proofs.Cases.{cases}
use Rattle.list_window.proofs.show.Goals as goal

pub returns-then-i-out : goal.returns-then-i-out
returns-then-i-out c = search cases

pub returns-else-i-out : goal.returns-else-i-out
returns-else-i-out c = search cases

pub returns-else-before-at : goal.returns-else-before-at
returns-else-before-at c = search cases
