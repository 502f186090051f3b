-- `read_entries::imports::read_imports` meets its contract. The loop keeps what is to be read: what was at first comes to what is now.
-- Assumes nothing.
use Rattle.read_steps.specs.Model.{imports}
use Rattle.read_steps.proofs.Lists.{loops}
use Rattle.read_entries.proofs.imports.read_imports.Goals as goal

pub loop-init : goal.loop-init
unfolding imports
loop-init c = search loops

pub loop-preserved : goal.loop-preserved
unfolding imports
loop-preserved c = search loops

pub returns-else-next_is : goal.returns-else-next_is
unfolding imports
returns-else-next_is c = search loops

pub returns-then-next_is-2 : goal.returns-then-next_is-2
unfolding imports
returns-then-next_is-2 c = search loops

pub returns : goal.returns
unfolding imports
returns c = search loops
