-- `text_spelling::is_called` meets its contract.
-- Assumes nothing.
use mathlib.Core.Path.{◌≡◌}
use lib.ListN.{drop}
use Rattle.meaning.specs.Names.{same}
use Rattle.text_spelling.specs.Word.{name_of}
use Rattle.text_spelling.specs.Joint.{joint}
use Rattle.text_spelling.proofs.is_called.Given as goal

abbrev pub invariant-loop-i : goal.invariant-loop-i
invariant-loop-i l = same (name_of (joint l.library l.text) l.a) l.asked ≡ same (drop l.i (name_of (joint l.library l.text) l.a)) (drop l.i l.asked)
