use Rattle.own_completing.proofs.Notes.{Noting}
use Rattle.own_completing.proofs.hidden.note_same.Given as goal

abbrev pub invariant-loop-i : goal.invariant-loop-i
invariant-loop-i l = Noting l.initial.work l.base l.n l.work l.i
