-- `diagram_c::asf_diagram` meets its contract. Assumes nothing.
use Rattle.asf_c.proofs.Cases.{cases}
use borrow.Author.Rules.{rules}
use Rattle.diagram_c.proofs.asf_diagram.Goals as goal

pub returns : goal.returns
returns c = search cases
