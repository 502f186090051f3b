-- `ask_alike::run_size` meets its contract.
-- Assumes nothing.
use Rattle.ask_alike.proofs.Cases.{sections}
use Rattle.ask_alike.proofs.run_size.Goals as goal

pub loop-j-init : goal.loop-j-init
loop-j-init c = search sections

pub loop-j-preserved : goal.loop-j-preserved
loop-j-preserved c = search sections

pub returns-then-not-is_of_section : goal.returns-then-not-is_of_section
returns-then-not-is_of_section c = search sections

pub returns : goal.returns
returns c = search sections
