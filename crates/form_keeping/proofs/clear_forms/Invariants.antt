use Rattle.form_keeping.proofs.Cases.{Clearing}
use Rattle.form_keeping.proofs.clear_forms.Given as goal

abbrev pub invariant-loop-k : goal.invariant-loop-k
invariant-loop-k l = Clearing l.table l.n l.kept l.initial.w l.w l.k l.nothing
