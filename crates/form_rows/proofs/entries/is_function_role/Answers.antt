-- `form_rows::entries::is_function_role` meets its contract.
-- Assumes nothing.
use Rattle.meaning.specs.Lists.{pick}
use Rattle.form_rows.specs.Entries.{is_function_role}
use Rattle.form_rows.proofs.Auto.{tests}
use Rattle.form_rows.proofs.entries.is_function_role.Goals as goal

pub returns-then-role-eq-EXPORT_FUNCTION : goal.returns-then-role-eq-EXPORT_FUNCTION
unfolding is_function_role pick
returns-then-role-eq-EXPORT_FUNCTION c = search tests

pub returns-else-role-eq-EXPORT_FUNCTION : goal.returns-else-role-eq-EXPORT_FUNCTION
unfolding is_function_role pick
returns-else-role-eq-EXPORT_FUNCTION c = search tests
