-- `ask_objections::find_across` meets its contract.
-- Assumes nothing.
use Rattle.meaning.specs.Names.{same}
use Rattle.text_names.specs.Word.{name_of}
use Rattle.text_names.specs.Joint.{joint}
use Rattle.modules.proofs.Cases.{Seeking}
use Rattle.modules.specs.Modules.{heads_in}
use Rattle.ask_objections.proofs.find_across.Given as goal

abbrev pub invariant-loop-k : goal.invariant-loop-k
invariant-loop-k l = Seeking (same (name_of (joint l.library l.text) l.w)) (joint l.behind l.other) l.more (heads_in l.g) l.count l.k
