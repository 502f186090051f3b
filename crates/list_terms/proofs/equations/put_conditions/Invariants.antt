-- `list_terms::equations::put_conditions` meets its contract.
-- Assumes nothing.
use Rattle.text_names.specs.Joint.{joint}
use Rattle.list_terms.specs.Terms.{sides_at}
use Rattle.list_terms.proofs.TermCases.{Listing}
use Rattle.list_terms.proofs.equations.put_conditions.Given as goal

abbrev pub invariant-loop-more : goal.invariant-loop-more
invariant-loop-more l =
    Listing l.limit (sides_at (joint l.library l.text) l.work l.visible l.depth) l.at l.initial.out l.left l.i l.more l.node l.to l.out
