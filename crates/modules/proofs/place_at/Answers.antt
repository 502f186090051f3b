-- `modules::place_at` meets its contract.
-- Assumes nothing.
use Rattle.modules.proofs.Cases.{heads}
use Rattle.modules.proofs.place_at.Goals as goal

pub returns-then-k-lt-COUNT : goal.returns-then-k-lt-COUNT
returns-then-k-lt-COUNT c = search heads

pub returns : goal.returns
returns c = search heads
