-- `ask::decide_sets` meets its contract. Assumes nothing.
use Rattle.ask.proofs.Cases.{deciding_sets}
use Rattle.ask.proofs.decide_sets.Goals as goal

pub returns-in-Some : goal.returns-in-Some
returns-in-Some c = search deciding_sets

pub returns-in-None : goal.returns-in-None
returns-in-None c = search deciding_sets
