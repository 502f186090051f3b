-- `ask_walk::next_member` meets its contract. Assumes nothing.
use Rattle.ask_walk.specs.Walk.{next_member}
use Rattle.ask_walk.proofs.Walking.{seeking}
use Rattle.ask_walk.proofs.next_member.Goals as goal

pub loop-k-init : goal.loop-k-init
loop-k-init c = search seeking

pub returns-then-has : goal.returns-then-has
returns-then-has c = search seeking

pub loop-k-preserved : goal.loop-k-preserved
loop-k-preserved c = search seeking

pub returns : goal.returns
unfolding next_member
returns c = search seeking
