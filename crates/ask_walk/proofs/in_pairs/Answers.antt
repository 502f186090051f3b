-- `ask_walk::in_pairs` meets its contract. Assumes nothing.
use Rattle.ask_walk.proofs.Walking.{pairing}
use Rattle.ask_walk.proofs.in_pairs.Goals as goal

pub loop-i-init : goal.loop-i-init
loop-i-init c = search pairing

pub returns-then-new_count-j : goal.returns-then-new_count-j
returns-then-new_count-j c = search pairing

pub enum_known-w : goal.enum_known-w
enum_known-w c = search pairing

pub returns-in-Some : goal.returns-in-Some
returns-in-Some c = search pairing

pub enum_told-1 : goal.enum_told-1
enum_told-1 c = search pairing

pub next_after-i-requires : goal.next_after-i-requires
next_after-i-requires c = search pairing

pub next_after-j-requires : goal.next_after-j-requires
next_after-j-requires c = search pairing

pub loop-i-smaller : goal.loop-i-smaller
loop-i-smaller c = search pairing

pub loop-i-preserved : goal.loop-i-preserved
loop-i-preserved c = search pairing

pub returns-then-j-new_count : goal.returns-then-j-new_count
returns-then-j-new_count c = search pairing

pub returns : goal.returns
returns c = search pairing
