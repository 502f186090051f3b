-- `imports::imports::imports_from` meets its contract. Assumes nothing.
use Rattle.text_names.specs.Joint.{joint}
use Rattle.imports.specs.Expressions.{ImportsGoing}
use Rattle.modules.specs.Modules.{heads_in}
use Rattle.imports.proofs.imports.imports_from.Given as goal

abbrev pub invariant-loop-n : goal.invariant-loop-n
invariant-loop-n l =
    ImportsGoing (joint l.library l.text) l.t l.initial.work (heads_in l.h) l.left l.i l.initial.made l.n l.at l.made l.work
