-- `ask_names::name_read` meets its contract. Assumes nothing.
use Rattle.ask_names.proofs.Cases.{naming}
use Rattle.ask_names.proofs.name_read.Goals as goal

pub returns-then-count-k : goal.returns-then-count-k
returns-then-count-k c = search naming

pub returns : goal.returns
returns c = search naming
