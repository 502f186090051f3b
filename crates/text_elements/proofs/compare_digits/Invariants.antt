-- `text_elements::compare_digits` meets its contract.
-- Assumes nothing.
use mathlib.Core.Path.{◌≡◌}
use lib.ListN.{take, drop}
use Rattle.text_spelling.specs.Word.{name_of}
use Rattle.text_runs.specs.Orders.{bytes_compared}
use Rattle.text_spelling.specs.Joint.{joint}
use Rattle.text_elements.proofs.compare_digits.Given as goal

abbrev pub invariant-loop-k : goal.invariant-loop-k
invariant-loop-k l = bytes_compared (take l.left (drop l.i (name_of (joint l.library l.text) l.a))) (take l.left (drop l.j (name_of (joint l.library l.text) l.b)))
    ≡ bytes_compared (drop l.k (take l.left (drop l.i (name_of (joint l.library l.text) l.a)))) (drop l.k (take l.left (drop l.j (name_of (joint l.library l.text) l.b))))
