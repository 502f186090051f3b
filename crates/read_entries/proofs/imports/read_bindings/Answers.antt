-- `read_entries::imports::read_bindings` meets its contract. The loop keeps what is to be read: what was at first comes to what is now.
-- Assumes nothing.
use Rattle.read_steps.proofs.Lists.{loops}
use Rattle.read_entries.proofs.imports.read_bindings.Goals as goal

pub loop-init : goal.loop-init
loop-init c = search loops

pub loop-preserved : goal.loop-preserved
loop-preserved c = search loops

pub returns-else-next_is : goal.returns-else-next_is
returns-else-next_is c = search loops

pub returns-then-next_is-2 : goal.returns-then-next_is-2
returns-then-next_is-2 c = search loops

pub returns : goal.returns
returns c = search loops
