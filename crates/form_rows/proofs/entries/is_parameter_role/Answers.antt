-- `form_rows::entries::is_parameter_role` meets its contract.
-- Assumes nothing.
use Rattle.meaning.specs.Lists.{pick}
use Rattle.form_rows.specs.Entries.{is_parameter_role}
use Rattle.form_rows.proofs.Auto.{tests}
use Rattle.form_rows.proofs.entries.is_parameter_role.Goals as goal

pub returns-then-role-eq-PARAMETER_SORT : goal.returns-then-role-eq-PARAMETER_SORT
unfolding is_parameter_role pick
returns-then-role-eq-PARAMETER_SORT c = search tests

pub returns-else-role-eq-PARAMETER_SORT : goal.returns-else-role-eq-PARAMETER_SORT
unfolding is_parameter_role pick
returns-else-role-eq-PARAMETER_SORT c = search tests
