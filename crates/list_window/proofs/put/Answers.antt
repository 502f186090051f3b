-- `list_window::put` meets its contract.
-- Assumes nothing.
use Rattle.list_window.proofs.Cases.{cases}
use Rattle.list_window.proofs.put.Goals as goal

pub returns-then-at-limit : goal.returns-then-at-limit
returns-then-at-limit c = search cases

pub returns : goal.returns
returns c = search cases
