-- `modules::named_set` meets its contract.
-- Assumes nothing.
use Rattle.form_rows.proofs.Auto.{on, done}
use Rattle.modules.proofs.Cases.{scans}
use Rattle.modules.proofs.named_set.Goals as goal
use Rattle.modules.proofs.named_set.Goals.{then-names_module, else-names_module}

pub loop-j-init : goal.loop-j-init
loop-j-init c = search scans

pub loop-j-preserved : goal.loop-j-preserved
loop-j-preserved c = elim c.if-names_module.branch [ then-names_module w ↦ search (on, scans) | else-names_module w ↦ search (on, scans) ]

pub returns : goal.returns
returns c = search (done, scans)
