-- `ask_objections::names` meets its contract.
-- Assumes nothing.
use Rattle.ask_objections.proofs.Cases.{names}
use Rattle.ask_objections.proofs.names.Goals as goal

pub loop-j-init : goal.loop-j-init
loop-j-init c = search names

pub returns-then-not-used_alike : goal.returns-then-not-used_alike
returns-then-not-used_alike c = search names

pub loop-j-preserved : goal.loop-j-preserved
loop-j-preserved c = search names

pub returns : goal.returns
returns c = search names
