-- `form_rows::entries::is_export_role` meets its contract.
-- Assumes nothing.
use Rattle.meaning.specs.Lists.{pick}
use Rattle.form_rows.specs.Entries.{is_export_role}
use Rattle.form_rows.proofs.Auto.{tests}
use Rattle.form_rows.proofs.entries.is_export_role.Goals as goal

pub returns-then-role-eq-EXPORT_SORT : goal.returns-then-role-eq-EXPORT_SORT
unfolding is_export_role pick
returns-then-role-eq-EXPORT_SORT c = search tests

pub returns-else-role-eq-EXPORT_SORT : goal.returns-else-role-eq-EXPORT_SORT
unfolding is_export_role pick
returns-else-role-eq-EXPORT_SORT c = search tests
