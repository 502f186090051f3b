-- `list_texts::compare_items` meets its contract. Assumes nothing.
use Rattle.text_names.specs.Joint.{joint}
use Rattle.list_texts.proofs.Cases.{Level}
use Rattle.list_texts.specs.Parts.{facet_text}
use Rattle.list_texts.proofs.compare_items.Given as goal

abbrev pub invariant-loop-i : goal.invariant-loop-i
invariant-loop-i l = Level (facet_text (joint l.library l.text) l.tape l.work l.by l.a) (facet_text (joint l.library l.text) l.tape l.work l.by l.b) l.i
