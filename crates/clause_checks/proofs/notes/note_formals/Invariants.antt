-- `clause_checks::notes::note_formals` meets its contract.
-- Assumes nothing.
use Rattle.clause_checks.proofs.NoteCases.{Noting}
use Rattle.text_names.specs.Joint.{joint}
use Rattle.clause_checks.proofs.notes.note_formals.Given as goal

abbrev pub invariant-loop-k : goal.invariant-loop-k
invariant-loop-k l = Noting (joint l.library l.text) l.initial.work l.t l.m l.y l.notes l.work l.k
