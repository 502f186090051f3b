-- `unite_checks::clashes::find_repeated` meets its contract. Assumes nothing.
use Rattle.text_names.specs.Joint.{joint}
use Rattle.unite_checks.proofs.SearchCases.{Neighbours}
use Rattle.unite_checks.proofs.clashes.find_repeated.Given as goal

abbrev pub invariant-loop-i : goal.invariant-loop-i
invariant-loop-i l = Neighbours (joint l.library l.text) l.w l.b l.n l.p l.i
