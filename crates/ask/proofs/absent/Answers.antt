-- `ask::absent` meets its contract. Assumes nothing.
use Rattle.ask.proofs.Cases.{answering}
use Rattle.ask.proofs.absent.Goals as goal

pub returns : goal.returns
returns c = search answering
