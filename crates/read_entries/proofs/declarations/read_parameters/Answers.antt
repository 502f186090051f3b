-- `read_entries::declarations::read_parameters` meets its contract. The loop keeps what is to be read: what was at first comes to what is now.
-- Assumes nothing.
use Rattle.read_steps.specs.Model.{parameters}
use Rattle.meaning.specs.Numbers.{text_size}
use Rattle.read_steps.proofs.Lists.{loops}
use Rattle.read_entries.proofs.declarations.read_parameters.Goals as goal

pub loop-init : goal.loop-init
unfolding parameters text_size
loop-init c = search loops

pub loop-preserved : goal.loop-preserved
unfolding parameters text_size
loop-preserved c = search loops

pub returns-else-next_is : goal.returns-else-next_is
unfolding parameters text_size
returns-else-next_is c = search loops

pub returns-then-next_is-2 : goal.returns-then-next_is-2
unfolding parameters text_size
returns-then-next_is-2 c = search loops

pub returns : goal.returns
unfolding parameters text_size
returns c = search loops
