-- `imports::runs::run_end` meets its contract. Assumes nothing.
use Rattle.imports.proofs.Cases.{Walking}
use Rattle.imports.proofs.runs.run_end.Given as goal

abbrev pub invariant-loop-j : goal.invariant-loop-j
invariant-loop-j l = Walking l.least l.tape l.end l.i l.j
