-- `ask::nameless` meets its contract. Assumes nothing.
use Rattle.ask.proofs.Cases.{answering}
use Rattle.ask.proofs.nameless.Goals as goal

pub returns : goal.returns
returns c = search answering
