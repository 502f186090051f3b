use Rattle.evaluate_module.proofs.Cases.{cases}
use Rattle.evaluate_module.proofs.steps.first_checks.Goals as goal

pub returns-in_err-names_right : goal.returns-in_err-names_right
returns-in_err-names_right c = search cases

pub returns : goal.returns
returns c = search cases
