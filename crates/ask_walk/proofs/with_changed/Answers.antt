-- `ask_walk::with_changed` meets its contract. Assumes nothing.
use Rattle.ask_walk.proofs.Walking.{changing}
use Rattle.ask_walk.proofs.with_changed.Goals as goal

pub returns-then-same_module : goal.returns-then-same_module
returns-then-same_module c = search changing

pub returns : goal.returns
returns c = search changing
