-- `ask_objections::section_start` meets its contract.
-- Assumes nothing.
use Rattle.ask_objections.proofs.Cases.{Sections}
use Rattle.ask_objections.proofs.section_start.Given as goal

abbrev pub invariant-loop-s : goal.invariant-loop-s
invariant-loop-s l = Sections l.tape l.initial.i l.end l.section l.i l.s
