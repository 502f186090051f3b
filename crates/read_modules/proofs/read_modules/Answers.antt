-- `read_modules::read_modules` meets its contract. The loop keeps what is to be read: what was at first comes to what is now.
-- Assumes nothing.
use Rattle.read_modules.proofs.Cases.{rounds}
use Rattle.read_modules.proofs.read_modules.Goals as goal

pub loop-init : goal.loop-init
loop-init c = search rounds

pub returns-then-next_is : goal.returns-then-next_is
returns-then-next_is c = search rounds

pub loop-preserved : goal.loop-preserved
loop-preserved c = search rounds

pub returns-then-next_is-2 : goal.returns-then-next_is-2
returns-then-next_is-2 c = search rounds

pub returns : goal.returns
returns c = search rounds
