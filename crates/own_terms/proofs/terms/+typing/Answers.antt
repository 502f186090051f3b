-- The cycle of calls of typing meets its contracts.
use mathlib.Core.Path.{refl}
use borrow.Author.Rules.{rules}
use Rattle.own_terms.proofs.Words.{reached_room, reached_fits, room_at, at_less, at_some}
use Rattle.own_terms.proofs.Arguments.{deep_tape, deep_fits, deep_still, deep_few, deep_nine, deep_done, deep_many, deep_falls, deep_ill, deep_again}
use Rattle.own_terms.proofs.Row.{operator_infix, back_open, back_less, back_room, back_some, back_fits, back_ill, back_fewer, back_again, back_end, row_less, row_room, row_ended, row_back_less, row_backed, onward_less}
use Rattle.own_terms.proofs.Deep.{deep_sunk, deep_row, read_room, deeper}
use Rattle.own_terms.proofs.terms.+typing.Goals as goal

pub type_args-ends_in-requires : goal.type_args-ends_in-requires
type_args-ends_in-requires t c = deep_tape _ _ _ _ _ _ _ _ _ c.loop-free.invariant c.requires.0

pub type_args-behind-requires : goal.type_args-behind-requires
type_args-behind-requires t c = λ _. deep_fits _ _ _ _ _ _ _ _ _ c.loop-free.invariant _ _ c.ends_in.ensures c.if-ends_in.true c.requires.0

pub type_args-type_named-requires : goal.type_args-type_named-requires
type_args-type_named-requires t c = let still = deep_still _ _ _ _ _ _ _ _ _ c.loop-free.invariant _ _ c.ends_in.ensures c.requires.0 in
    (room_at _ _ _ _ _ _ c.move_to.ensures (search rules) still, deep_few _ _ _ _ _ _ _ _ _ c.loop-free.invariant, deep_nine _ _ _ _ _ _ _ _ _ c.loop-free.invariant)

pub type_args-returns-then-ends_in : goal.type_args-returns-then-ends_in
type_args-returns-then-ends_in t c = deep_done _ _ _ _ _ _ _ _ _ c.loop-free.invariant _ _ c.ends_in.ensures _ _ _ _ _ c.if-ends_in.true
    c.behind.ensures c.move_to.ensures c.type_named.ensures

pub type_args-returns-then-count-eq9 : goal.type_args-returns-then-count-eq9
type_args-returns-then-count-eq9 t c = deep_many _ _ _ _ _ _ _ _ _ c.loop-free.invariant _ _ c.ends_in.ensures c.if-ends_in.false _ c.if-count-eq9.true

pub type_args-type_deep-sort-requires : goal.type_args-type_deep-sort-requires
type_args-type_deep-sort-requires t c = let still = deep_still _ _ _ _ _ _ _ _ _ c.loop-free.invariant _ _ c.ends_in.ensures c.requires.0 in
    (deep_falls _ _ _ _ _ _ _ _ _ c.loop-free.invariant _ _ c.descend.ensures c.requires.1 c.decreases, room_at _ _ _ _ _ _ c.descend.ensures (search rules) still)

pub type_args-returns-then-sort-eq0 : goal.type_args-returns-then-sort-eq0
type_args-returns-then-sort-eq0 t c = deep_ill _ _ _ _ _ _ _ _ _ c.loop-free.invariant _ _ c.ends_in.ensures c.if-ends_in.false c.if-count-eq9.false _
    c.descend.ensures _ _ _ c.type_deep-sort.ensures c.if-sort-eq0.true

pub type_args-loop-free-preserved : goal.type_args-loop-free-preserved
type_args-loop-free-preserved t c = deep_again _ _ _ _ _ _ _ _ _ c.loop-free.invariant _ _ c.ends_in.ensures c.if-ends_in.false c.if-count-eq9.false _
    c.descend.ensures _ _ _ c.type_deep-sort.ensures c.if-sort-eq0.false _ _ c.requires.1 c.ascend.ensures refl

pub type_back-loop-row-init : goal.type_back-loop-row-init
type_back-loop-row-init t c = back_open _ _ _ _ _ c.requires.1 c.requires.2 c.requires.0.words.long c.requires.3

pub type_back-type_operator-sort-requires : goal.type_back-type_operator-sort-requires
type_back-type_operator-sort-requires t c = (back_less _ _ _ _ _ _ _ _ _ c.loop-row.invariant c.loop-row-test.true _ c.decreases, (back_room _ _ _ _ _ _ _ _ _ c.loop-row.invariant c.requires.0, back_some _ _ _ _ _ _ _ _ _ c.loop-row.invariant, back_fits _ _ _ _ _ _ _ _ _ c.loop-row.invariant))

pub type_back-returns-then-sort-eq0 : goal.type_back-returns-then-sort-eq0
type_back-returns-then-sort-eq0 t c = back_ill _ _ _ _ _ _ _ _ _ c.loop-row.invariant c.loop-row-test.true _ c.step_back.ensures _ _ _ c.type_operator-sort.ensures c.if-sort-eq0.true

pub type_back-loop-row-smaller : goal.type_back-loop-row-smaller
type_back-loop-row-smaller t c = back_fewer _ _ _ _ _ _ _ _ _ c.loop-row.invariant c.loop-row-test.true _ c.step_back.ensures _ _ _ c.type_operator-sort.ensures c.if-sort-eq0.false _
    c.shorten.ensures

pub type_back-loop-row-preserved : goal.type_back-loop-row-preserved
type_back-loop-row-preserved t c = back_again _ _ _ _ _ _ _ _ _ c.loop-row.invariant c.loop-row-test.true _ c.step_back.ensures _ _ _ c.type_operator-sort.ensures c.if-sort-eq0.false _
    c.shorten.ensures _ c.ascend.ensures

pub type_back-returns : goal.type_back-returns
type_back-returns t c = back_end _ _ _ _ _ _ _ _ _ c.loop-row.invariant c.loop-row-test.false

pub type_deep-type_primary-first-requires : goal.type_deep-type_primary-first-requires
type_deep-type_primary-first-requires t c = (row_less _ _ _ _ _ _ _ c.operators_from-row.ensures _ c.decreases, (row_room _ _ _ _ _ _ _ c.operators_from-row.ensures c.requires, search deeper, row_ended _ _ _ _ _ _ _ c.operators_from-row.ensures))

pub type_deep-returns-then-first-eq0 : goal.type_deep-returns-then-first-eq0
type_deep-returns-then-first-eq0 t c = deep_sunk _ _ _ _ _ _ c.operators_from-row.ensures _ _ _ c.type_primary-first.ensures c.if-first-eq0.true

pub type_deep-type_back-requires : goal.type_deep-type_back-requires
type_deep-type_back-requires t c = (
  row_back_less _ _ _ _ _ _ _ c.operators_from-row.ensures _ _ _ _ _ c.type_primary-first.ensures c.if-first-eq0.false _ c.decreases,
  (
    reached_room _ _ _ _ _ _ _ c.type_primary-first.ensures c.if-first-eq0.false _ refl (search rules) (row_room _ _ _ _ _ _ _ c.operators_from-row.ensures c.requires),
    c.if-first-eq0.false,
    reached_fits _ _ _ _ _ _ _ c.type_primary-first.ensures,
    row_backed _ _ _ _ _ _ _ c.operators_from-row.ensures _ _ _ _ _ c.type_primary-first.ensures c.if-first-eq0.false c.requires,
  ),
)

pub type_deep-returns : goal.type_deep-returns
type_deep-returns t c = deep_row _ _ _ _ _ _ c.operators_from-row.ensures _ _ _ c.type_primary-first.ensures _ _ _ c.if-first-eq0.false c.type_back.ensures

pub type_operator-returns-then-row-eq0 : goal.type_operator-returns-then-row-eq0
type_operator-returns-then-row-eq0 t c = search deeper

pub type_operator-returns-then-second-eq0 : goal.type_operator-returns-then-second-eq0
type_operator-returns-then-second-eq0 t c = search deeper

pub type_operator-type_named-requires-2 : goal.type_operator-type_named-requires-2
type_operator-type_named-requires-2 t c = (reached_room _ _ _ _ _ _ _ c.type_deep-second.ensures c.if-second-eq0.false _ refl (search rules) c.requires.0, search deeper, search deeper)

pub type_operator-returns : goal.type_operator-returns
type_operator-returns t c = search (operator_infix, c.type_named-2.ensures, c.type_deep-second.ensures, rules)

pub type_primary-returns-then-words-eq0 : goal.type_primary-returns-then-words-eq0
type_primary-returns-then-words-eq0 t c = search deeper

pub type_primary-returns-then-role-eq-ALONE : goal.type_primary-returns-then-role-eq-ALONE
type_primary-returns-then-role-eq-ALONE t c = search deeper

pub type_primary-type_args-requires : goal.type_primary-type_args-requires
type_primary-type_args-requires t c = let still = read_room _ _ _ _ c.role_in-role.ensures _ c.requires.0 in
    (at_less _ _ _ _ _ c.move_to.ensures c.args.row.now _ c.decreases, (room_at _ _ _ _ _ _ c.move_to.ensures (search rules) still, at_some _ _ _ _ _ c.move_to.ensures c.if-words-eq0.false, search deeper))

pub type_primary-returns-then-role-eq-HEAD : goal.type_primary-returns-then-role-eq-HEAD
type_primary-returns-then-role-eq-HEAD t c = search deeper

pub type_primary-type_onward-requires : goal.type_primary-type_onward-requires
type_primary-type_onward-requires t c = let still = read_room _ _ _ _ c.role_in-role.ensures _ c.requires.0 in
    (onward_less _ c.args.row.now _ _ _ _ _ c.if-row-gt1.true c.decreases c.move_to-then-row-gt1.ensures, room_at _ _ _ _ _ _ c.move_to-then-row-gt1.ensures (search rules) still)

pub type_primary-returns-then-q-work : goal.type_primary-returns-then-q-work
type_primary-returns-then-q-work t c = search deeper

pub type_primary-returns-then-i-t : goal.type_primary-returns-then-i-t
type_primary-returns-then-i-t t c = search deeper

pub type_primary-returns : goal.type_primary-returns
type_primary-returns t c = search deeper
