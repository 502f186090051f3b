-- `imports::turns::clauses_from` meets its contract. Assumes nothing.
use Rattle.text_names.specs.Joint.{joint}
use Rattle.imports.specs.Clausal.{ClausesGoing}
use Rattle.modules.specs.Modules.{heads_in}
use Rattle.imports.proofs.turns.clauses_from.Given as goal

abbrev pub invariant-loop-n : goal.invariant-loop-n
invariant-loop-n l =
    ClausesGoing (joint l.library l.text) l.t l.initial.work (heads_in l.h) l.left l.i l.initial.f l.n l.at l.f l.turn l.work
