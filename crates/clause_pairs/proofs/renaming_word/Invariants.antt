-- `clause_pairs::renaming_word` meets its contract.
-- Assumes nothing.
use Rattle.text_names.specs.Joint.{joint}
use Rattle.clause_pairs.proofs.Cases.{Pairing}
use Rattle.clause_pairs.proofs.renaming_word.Given as goal

abbrev pub invariant-loop-k : goal.invariant-loop-k
invariant-loop-k l = Pairing (joint l.library l.text) l.tape l.pairs l.w l.k
