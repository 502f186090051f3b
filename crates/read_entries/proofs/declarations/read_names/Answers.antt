-- `read_entries::declarations::read_names` meets its contract. The loop keeps what is to be read: what was at first comes to what is now.
-- Assumes nothing.
use Rattle.read_steps.specs.Model.{names}
use Rattle.read_steps.proofs.Lists.{loops}
use Rattle.read_entries.proofs.declarations.read_names.Goals as goal

pub loop-init : goal.loop-init
unfolding names
loop-init c = search loops

pub loop-preserved : goal.loop-preserved
unfolding names
loop-preserved c = search loops

pub returns-else-next_is : goal.returns-else-next_is
unfolding names
returns-else-next_is c = search loops

pub returns-then-next_is-2 : goal.returns-then-next_is-2
unfolding names
returns-then-next_is-2 c = search loops

pub returns : goal.returns
unfolding names
returns c = search loops
