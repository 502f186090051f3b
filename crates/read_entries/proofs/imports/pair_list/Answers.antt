-- `read_entries::imports::pair_list` meets its contract. The loop keeps what is to be read: what was at first comes to what is now.
-- Assumes nothing.
use Rattle.read_steps.proofs.Lists.{loops}
use Rattle.read_entries.proofs.imports.pair_list.Goals as goal

pub loop-init : goal.loop-init
loop-init c = search loops

pub loop-preserved : goal.loop-preserved
loop-preserved c = search loops

pub returns-else-next_is : goal.returns-else-next_is
returns-else-next_is c = search loops

pub returns-then-begins_function : goal.returns-then-begins_function
returns-then-begins_function c = search loops

pub returns : goal.returns
returns c = search loops
