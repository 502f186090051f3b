-- `ask_objections::find_across` meets its contract.
-- Assumes nothing.
use Rattle.modules.proofs.Cases.{numbers}
use Rattle.ask_objections.proofs.find_across.Goals as goal

pub loop-k-init : goal.loop-k-init
loop-k-init c = search numbers

pub returns-then-same_wherever : goal.returns-then-same_wherever
returns-then-same_wherever c = search numbers

pub loop-k-preserved : goal.loop-k-preserved
loop-k-preserved c = search numbers

pub returns : goal.returns
returns c = search numbers
