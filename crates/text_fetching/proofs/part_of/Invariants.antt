-- `text_fetching::part_of` meets its contract.
-- Assumes nothing.
use Rattle.text_fetching.proofs.Cases.{Looking}
use Rattle.text_fetching.proofs.part_of.Given as goal

abbrev pub invariant-loop-left : goal.invariant-loop-left
invariant-loop-left l = Looking l.text l.marked l.name l.i l.left
