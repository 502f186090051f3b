-- `ask_alike::same_entry` meets its contract.
-- Assumes nothing.
use Rattle.ask_alike.proofs.Cases.{cases}
use Rattle.ask_alike.proofs.same_entry.Goals as goal

pub returns-then-v-w : goal.returns-then-v-w
returns-then-v-w c = search cases

pub returns : goal.returns
returns c = search cases
