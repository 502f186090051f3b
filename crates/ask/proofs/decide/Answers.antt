-- `ask::decide` meets its contract. Assumes nothing.
use Rattle.ask.proofs.Cases.{calling}
use Rattle.ask.proofs.decide.Goals as goal

pub returns-then-work-size : goal.returns-then-work-size
returns-then-work-size c = search calling

pub returns : goal.returns
returns c = search calling
