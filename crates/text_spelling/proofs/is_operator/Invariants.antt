-- `text_spelling::is_operator` meets its contract.
-- Assumes nothing.
use mathlib.Core.Path.{◌≡◌}
use lib.ListN.{drop}
use Rattle.meaning.specs.Names.{is_operator}
use Rattle.text_spelling.specs.Word.{name_of}
use Rattle.text_spelling.specs.Joint.{joint}
use Rattle.text_spelling.proofs.is_operator.Given as goal

abbrev pub invariant-loop-i : goal.invariant-loop-i
invariant-loop-i l = is_operator (name_of (joint l.library l.text) l.w) ≡ is_operator (drop l.i (name_of (joint l.library l.text) l.w))
