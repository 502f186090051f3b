-- `imports::runs::is_of_run` meets its contract. Assumes nothing.
use Rattle.imports.proofs.Cases.{cases}
use Rattle.imports.proofs.runs.is_of_run.Goals as goal

pub returns-then-role-least : goal.returns-then-role-least
returns-then-role-least c = search cases

pub returns : goal.returns
returns c = search cases
