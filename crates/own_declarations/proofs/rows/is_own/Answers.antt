-- `own_declarations::rows::is_own` meets its contract.
-- Assumes nothing.
use Rattle.own_declarations.specs.Items.{own_role, is_own}
use Rattle.laws_choices.specs.Choices.{choices}
use Rattle.own_declarations.proofs.rows.is_own.Goals as goal

pub returns-then-role-eq-VARIABLE : goal.returns-then-role-eq-VARIABLE
unfolding is_own own_role
returns-then-role-eq-VARIABLE c = search choices

pub returns-then-role-lt-HIDDEN_SORT : goal.returns-then-role-lt-HIDDEN_SORT
unfolding is_own own_role
returns-then-role-lt-HIDDEN_SORT c = search choices

pub returns-then-hidden : goal.returns-then-hidden
unfolding is_own own_role
returns-then-hidden c = search choices

pub returns-then-role-lt-PARAMETER_SORT : goal.returns-then-role-lt-PARAMETER_SORT
unfolding is_own own_role
returns-then-role-lt-PARAMETER_SORT c = search choices

pub returns : goal.returns
unfolding is_own own_role
returns c = search choices
