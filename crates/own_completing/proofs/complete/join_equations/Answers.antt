use Rattle.own_completing.proofs.Stages.{laid_stage}
use Rattle.own_completing.proofs.complete.join_equations.Goals as goal

pub complete_equations-requires : goal.complete_equations-requires
complete_equations-requires c = search laid_stage

pub returns : goal.returns
returns c = search laid_stage
