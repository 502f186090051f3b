-- `module_names::names_right` meets its contract.
-- Assumes nothing.
use Rattle.form_rows.proofs.Auto.{on, done}
use Rattle.module_names.proofs.Cases.{scans}
use Rattle.module_names.proofs.names_right.Goals as goal
use Rattle.module_names.proofs.names_right.Goals.{then-names_module+in_ok-name_right, else-names_module}

pub loop-j-init : goal.loop-j-init
loop-j-init c = search scans

pub returns-in_err-name_right : goal.returns-in_err-name_right
returns-in_err-name_right c = search (done, scans)

pub loop-j-preserved : goal.loop-j-preserved
loop-j-preserved c = elim c.if-names_module.branch [ then-names_module+in_ok-name_right w ↦ search (on, scans) | else-names_module w ↦ search (on, scans) ]

pub returns : goal.returns
returns c = search (done, scans)
