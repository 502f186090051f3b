-- `ask_walk::changed_set` meets its contract. Assumes nothing.
use Rattle.ask_walk.proofs.Walking.{changing}
use Rattle.ask_walk.proofs.changed_set.Goals as goal

pub loop-i-init : goal.loop-i-init
loop-i-init c = search changing

pub returns-then-new_count-j : goal.returns-then-new_count-j
returns-then-new_count-j c = search changing

pub next_after-i-requires : goal.next_after-i-requires
next_after-i-requires c = search changing

pub next_after-j-requires : goal.next_after-j-requires
next_after-j-requires c = search changing

pub loop-i-smaller : goal.loop-i-smaller
loop-i-smaller c = search changing

pub loop-i-preserved : goal.loop-i-preserved
loop-i-preserved c = search changing

pub returns : goal.returns
returns c = search changing
