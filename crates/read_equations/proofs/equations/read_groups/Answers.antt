-- `read_equations::equations::read_groups` meets its contract. The loop keeps what is to be read: what was at first comes to what is now.
-- Assumes nothing.
use Rattle.meaning.specs.Numbers.{text_size}
use Rattle.read_steps.proofs.Lists.{loops}
use Rattle.read_equations.proofs.equations.read_groups.Goals as goal

pub loop-init : goal.loop-init
unfolding text_size
loop-init c = search loops

pub loop-preserved : goal.loop-preserved
unfolding text_size
loop-preserved c = search loops

pub returns-else-next_is : goal.returns-else-next_is
unfolding text_size
returns-else-next_is c = search loops

pub returns-then-next_is-2 : goal.returns-then-next_is-2
unfolding text_size
returns-then-next_is-2 c = search loops

pub returns : goal.returns
unfolding text_size
returns c = search loops
