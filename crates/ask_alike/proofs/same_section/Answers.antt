-- `ask_alike::same_section` meets its contract.
-- Assumes nothing.
use Rattle.ask_alike.proofs.Cases.{cases}
use Rattle.ask_alike.proofs.same_section.Goals as goal

pub returns : goal.returns
returns c = search cases
