-- `read_terms::term::push` meets its contract. The loop keeps what is to be pushed: what was at first comes to what is now.
-- Assumes nothing.
use Rattle.read_terms.proofs.Cases.{Pushes}
use Rattle.read_terms.proofs.term.push.Given as goal

abbrev pub invariant-loop-at : goal.invariant-loop-at
invariant-loop-at l = Pushes l.end l.i l.word l.initial.tape l.at l.carried l.tape
