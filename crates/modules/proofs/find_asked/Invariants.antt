-- `modules::find_asked` meets its contract.
-- Assumes nothing.
use Rattle.meaning.specs.Names.{Name, same}
use Rattle.text_names.specs.Joint.{joint}
use Rattle.modules.proofs.Cases.{Seeking}
use Rattle.modules.specs.Modules.{heads_in}
use Rattle.modules.proofs.find_asked.Given as goal

abbrev pub invariant-loop-k : goal.invariant-loop-k
invariant-loop-k l = Seeking (λ (w : Name). same w l.asked) (joint l.library l.text) l.tape (heads_in l.h) l.count l.k
