-- Three for each level that is left:
-- no more for arguments, which stand one level deeper; one more behind a row of operators, where the levels of the row count too, and on the way
-- back; two more for the term, and three for what calls it.
-- Assumes nothing.
use Rattle.text_names.specs.Joint.{joint}
use Rattle.own_terms.specs.Typing.{operators_in}
use Rattle.own_terms.proofs.Arguments.{Deep}
use Rattle.own_terms.proofs.Row.{Returning}
use Prim.Native.Nat.{◌+◌, ◌-◌, ◌*◌}
use lib.ListN.{get_or}
use Rattle.own_terms.proofs.terms.+typing.Given as goal

abbrev pub decreases-type_args : goal.decreases-type_args
decreases-type_args l = get_or l.words.now 7 0 * 3

abbrev pub decreases-type_back : goal.decreases-type_back
decreases-type_back l = (get_or l.words.now 7 0 + operators_in l.row.now) * 3 + 1

abbrev pub decreases-type_deep : goal.decreases-type_deep
decreases-type_deep l = get_or l.words.now 7 0 * 3 + 2

abbrev pub decreases-type_onward : goal.decreases-type_onward
decreases-type_onward l = get_or l.words.now 7 0 * 3 + 3

abbrev pub decreases-type_operator : goal.decreases-type_operator
decreases-type_operator l = get_or l.words.now 7 0 * 3 + 3

abbrev pub decreases-type_primary : goal.decreases-type_primary
decreases-type_primary l = (get_or l.words.now 7 0 + operators_in l.row.now) * 3 + 1

abbrev pub invariant-type_args-loop-free : goal.invariant-type_args-loop-free
invariant-type_args-loop-free l =
    Deep (joint l.texts.library.now l.texts.text.now) l.initial.words (get_or l.row 0 0) (get_or l.row 1 0) l.initial.work l.count l.sorts l.words l.work

abbrev pub decreases-type_args-loop-free : goal.decreases-type_args-loop-free
decreases-type_args-loop-free l =
    9 - l.count

abbrev pub invariant-type_back-loop-row : goal.invariant-type_back-loop-row
invariant-type_back-loop-row l =
    Returning (joint l.texts.library.now l.texts.text.now) l.initial.words l.initial.row l.first l.initial.work l.row l.sort l.words l.work

abbrev pub decreases-type_back-loop-row : goal.decreases-type_back-loop-row
decreases-type_back-loop-row l =
    get_or l.row 2 0
