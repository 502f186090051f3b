-- `text_fetching::part_end` meets its contract. Assumes nothing.
use mathlib.Core.Path.{◌≡◌}
use Rattle.meaning.specs.Texts.{part_end}
use Rattle.text_fetching.proofs.part_end.Given as goal

abbrev pub invariant-loop-left : goal.invariant-loop-left
invariant-loop-left l = part_end l.text 32768 l.at ≡ part_end l.text l.left l.i
