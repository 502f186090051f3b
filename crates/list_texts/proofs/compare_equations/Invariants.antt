-- `list_texts::compare_equations` meets its contract. Assumes nothing.
use Rattle.text_names.specs.Joint.{joint}
use Rattle.list_terms.specs.Terms.{equation_at}
use Rattle.list_texts.proofs.Cases.{Level}
use Rattle.list_texts.proofs.compare_equations.Given as goal

abbrev pub invariant-loop-i : goal.invariant-loop-i
invariant-loop-i l = Level (equation_at (joint l.library l.text) l.work l.visible l.nodes l.a) (equation_at (joint l.library l.text) l.work l.visible l.nodes l.b) l.i
