-- `unite_checks::clashes::find_clash` meets its contract. Assumes nothing.
use Rattle.text_names.specs.Joint.{joint}
use Rattle.unite_checks.proofs.SearchCases.{Inner, Outer, Unfound}
use Rattle.unite_checks.proofs.clashes.find_clash.Given as goal

abbrev pub invariant-outer : goal.invariant-outer
invariant-outer l = Unfound l.least (Outer (joint l.library l.text) l.tape l.w l.b l.n l.p l.test l.i)

abbrev pub invariant-loop-j : goal.invariant-loop-j
invariant-loop-j l = Unfound l.least (Inner (joint l.library l.text) l.tape l.w l.b l.n l.p l.test l.i l.x l.j)
