-- `ask::objected` meets its contract. Assumes nothing.
use Rattle.ask.proofs.Cases.{answering}
use Rattle.ask.proofs.objected.Goals as goal

pub returns-then-in_new : goal.returns-then-in_new
returns-then-in_new c = search answering

pub returns : goal.returns
returns c = search answering
