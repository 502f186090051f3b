-- `list_terms::terms::put_heads` meets its contract.
-- Assumes nothing.
use Rattle.text_names.specs.Joint.{joint}
use Rattle.list_terms.proofs.PlaceCases.{Heading}
use Rattle.list_terms.proofs.terms.put_heads.Given as goal

abbrev pub invariant-loop-n : goal.invariant-loop-n
invariant-loop-n l = Heading (joint l.source.library.now l.source.text.now) l.source.work.now l.depth l.initial.places l.initial.out l.n l.places l.out
