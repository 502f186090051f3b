-- `diagram::diagram` meets its contract. Assumes nothing.
use Rattle.diagram.proofs.Cases.{calling}
use Rattle.diagram.proofs.diagram.Goals as goal

pub returns-then-work-size : goal.returns-then-work-size
returns-then-work-size c = search calling

pub returns : goal.returns
returns c = search calling
