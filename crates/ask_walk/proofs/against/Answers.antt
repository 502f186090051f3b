-- `ask_walk::against` meets its contract. Assumes nothing.
use Rattle.ask_walk.proofs.Walking.{passing}
use Rattle.ask_walk.proofs.against.Goals as goal

pub loop-pass-init : goal.loop-pass-init
loop-pass-init c = search passing

pub enum_known-w : goal.enum_known-w
enum_known-w c = search passing

pub returns-in-Some : goal.returns-in-Some
returns-in-Some c = search passing

pub enum_told-1 : goal.enum_told-1
enum_told-1 c = search passing

pub loop-pass-preserved : goal.loop-pass-preserved
loop-pass-preserved c = search passing

pub returns : goal.returns
returns c = search passing
