-- `form_comparing::declarations::same_names` meets its contract.
-- Assumes nothing.
use mathlib.Core.Path.{◌≡◌}
use Prim.Native.Nat.{◌+◌}
use Rattle.meaning.specs.Lists.{agree}
use Rattle.meaning.specs.Names.{same}
use Rattle.text_names.specs.Joint.{joint}
use Rattle.form_rows.specs.Entries.{names_from}
use Rattle.form_comparing.proofs.Told.{NamesFrom}
use Rattle.form_comparing.proofs.declarations.same_names.Given as goal

abbrev pub invariant-loop-k : goal.invariant-loop-k
invariant-loop-k l =
    agree same (names_from (joint l.library l.text) l.tape (l.d + 1) l.c) (names_from (joint l.library l.text) l.tape (l.e + 1) l.c)
    ≡ NamesFrom (joint l.library l.text) l.tape (l.d + 1) (l.e + 1) l.c l.k
