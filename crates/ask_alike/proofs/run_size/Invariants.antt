-- `ask_alike::run_size` meets its contract.
-- Assumes nothing.
use Rattle.ask_alike.proofs.Cases.{Counted}
use Rattle.ask_alike.proofs.run_size.Given as goal

abbrev pub invariant-loop-j : goal.invariant-loop-j
invariant-loop-j l = Counted l.section l.tape l.i l.end l.j
