-- `imports::runs::run_end` meets its contract. Assumes nothing.
use Rattle.imports.proofs.Cases.{cases}
use Rattle.imports.proofs.runs.run_end.Goals as goal

pub overflow_cast-end : goal.overflow_cast-end
overflow_cast-end c = search cases

pub loop-j-init : goal.loop-j-init
loop-j-init c = search cases

pub overflow_cast-j : goal.overflow_cast-j
overflow_cast-j c = search cases

pub loop-j-preserved : goal.loop-j-preserved
loop-j-preserved c = search cases

pub returns-then-not-is_of_run : goal.returns-then-not-is_of_run
returns-then-not-is_of_run c = search cases

pub returns : goal.returns
returns c = search cases
