-- `ask::decide_reached` meets its contract. Assumes nothing.
use Rattle.ask.proofs.Cases.{deciding_sets}
use Rattle.ask.proofs.decide_reached.Goals as goal

pub returns : goal.returns
returns c = search deciding_sets
