use Rattle.own_completing.proofs.Stages.{equations_stage, equations_done}
use borrow.Author.Rules.{rules}
use Rattle.own_completing.proofs.complete.complete_equations.Goals as goal

pub type_own-made-requires : goal.type_own-made-requires
type_own-made-requires c = search equations_stage

pub join_made-requires : goal.join_made-requires
join_made-requires c = search equations_stage

pub returns : goal.returns
returns c = search (equations_done, c.requires.rooms, c.requires.counted, rules)
