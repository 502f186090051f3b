-- `modules::find_number` meets its contract.
-- Assumes nothing.
use Rattle.meaning.specs.Names.{same}
use Rattle.text_names.specs.Word.{name_of}
use Rattle.text_names.specs.Joint.{joint}
use Rattle.modules.proofs.Cases.{Seeking}
use Rattle.modules.specs.Modules.{heads_in}
use Rattle.modules.proofs.find_number.Given as goal

abbrev pub invariant-loop-k : goal.invariant-loop-k
invariant-loop-k l = Seeking (same (name_of (joint l.library l.text) l.w)) (joint l.library l.text) l.tape (heads_in l.h) l.count l.k
