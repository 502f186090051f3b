use Rattle.evaluate_module.proofs.Cases.{cases}
use Rattle.evaluate_module.proofs.steps.imported.Goals as goal

pub overflow_cast-i : goal.overflow_cast-i
overflow_cast-i c = search cases

pub imports_from-requires : goal.imports_from-requires
imports_from-requires c = search cases

pub returns : goal.returns
returns c = search cases
