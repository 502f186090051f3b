-- `read_entries::declarations::read_functions` meets its contract. The loop keeps what is to be read: what was at first comes to what is now.
-- Assumes nothing.
use Rattle.meaning.specs.Numbers.{text_size}
use Rattle.read_steps.proofs.Lists.{loops}
use Rattle.read_entries.proofs.declarations.read_functions.Goals as goal

pub loop-init : goal.loop-init
unfolding text_size
loop-init c = search loops

pub loop-preserved : goal.loop-preserved
unfolding text_size
loop-preserved c = search loops

pub returns-else-begins_function : goal.returns-else-begins_function
unfolding text_size
returns-else-begins_function c = search loops

pub returns-then-begins_function-2 : goal.returns-then-begins_function-2
unfolding text_size
returns-then-begins_function-2 c = search loops

pub returns : goal.returns
unfolding text_size
returns c = search loops
