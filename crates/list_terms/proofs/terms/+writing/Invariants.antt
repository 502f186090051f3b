-- The cycle of calls {put_deep, put_more} meets its contracts. Two for each level that is left, and one more for what follows a first argument.
-- Assumes nothing.
use Rattle.text_names.specs.Joint.{joint}
use Rattle.list_terms.specs.Terms.{term_at, closed}
use Rattle.list_terms.proofs.PlaceCases.{Leaving}
use Rattle.list_terms.proofs.PlaceCases.{Backing}
use Prim.Native.Nat.{◌+◌, ◌*◌}
use lib.ListN.{get_or}
use Rattle.list_terms.proofs.terms.+writing.Given as goal

abbrev pub decreases-put_deep : goal.decreases-put_deep
decreases-put_deep l = l.depth * 2

abbrev pub decreases-put_more : goal.decreases-put_more
decreases-put_more l = l.depth * 2 + 1

abbrev pub invariant-put_deep-loop-n : goal.invariant-put_deep-loop-n
invariant-put_deep-loop-n l =
    Backing (joint l.source.library.now l.source.text.now) l.source.work.now l.depth l.i l.heads l.initial.places l.initial.out l.n l.places l.out

abbrev pub invariant-put_more-loop : goal.invariant-put_more-loop
invariant-put_more-loop l =
    let one = term_at (joint l.source.library.now l.source.text.now) l.source.work.now (get_or l.initial.places 3 0) l.depth in
    Leaving (closed one l.left (get_or l.initial.places 1 0)) l.initial.places l.initial.out (closed one l.counter (get_or l.places 1 0)) l.places l.out
