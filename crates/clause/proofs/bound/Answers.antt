-- `clause::bound` meets its contract.
-- Assumes nothing.
use Rattle.clause.specs.WholeSteps.{hidden_step, check_step, bound_form}
use Rattle.clause.proofs.Cases.{whole}
use Rattle.clause.proofs.bound.Goals as goal

pub formals_noted-requires : goal.formals_noted-requires
formals_noted-requires c = search whole

pub bound_hidden-f-requires : goal.bound_hidden-f-requires
bound_hidden-f-requires c = hidden_step _ _ _ _ _ _ _ c.requires _ _ c.bound_rows-seen.ensures _ c.formals_noted.ensures

pub checked-requires : goal.checked-requires
checked-requires c = check_step _ _ _ _ _ _ _ c.requires _ _ c.bound_rows-seen.ensures _ c.formals_noted.ensures _ _
    c.bound_hidden-f.ensures

pub returns : goal.returns
returns c = bound_form _ _ _ _ _ _ _ c.requires _ _ c.bound_rows-seen.ensures _ c.formals_noted.ensures _ _ c.bound_hidden-f.ensures _ _
    c.checked.ensures
