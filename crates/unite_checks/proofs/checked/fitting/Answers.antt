use Rattle.unite_checks.proofs.Checks.{checks}
use Rattle.unite_checks.proofs.checked.fitting.Goals as goal

pub returns-in_err-room : goal.returns-in_err-room
returns-in_err-room c = search checks

pub returns : goal.returns
returns c = search checks
