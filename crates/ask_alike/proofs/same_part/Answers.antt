-- `ask_alike::same_part` meets its contract.
-- Assumes nothing.
use Rattle.ask_alike.proofs.Cases.{cases}
use Rattle.ask_alike.proofs.same_part.Goals as goal

pub returns : goal.returns
returns c = search cases
