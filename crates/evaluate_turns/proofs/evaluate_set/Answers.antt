-- `evaluate_turns::evaluate_set` meets its contract. Assumes nothing.
use borrow.Author.Rules.{rules}
use Rattle.evaluate_turns.specs.Asked.{asked_within, before_asked}
use Rattle.evaluate_turns.specs.Turning.{going_kept, going_passed, resumed_asked, few_asked}
use Rattle.evaluate_turns.proofs.Cases.{cases}
use Rattle.evaluate_turns.proofs.evaluate_set.Goals as goal
use Rattle.evaluate_turns.proofs.evaluate_set.Goals.{then-has+in-Ok, else-has}

pub loop-i-init : goal.loop-i-init
loop-i-init c = search cases

pub slice_bounds-name_of_module-count : goal.slice_bounds-name_of_module-count
slice_bounds-name_of_module-count c = search cases

pub slice_bounds-name_of_module-start : goal.slice_bounds-name_of_module-start
slice_bounds-name_of_module-start c = search cases

pub slice_bounds-name_of_module-end : goal.slice_bounds-name_of_module-end
slice_bounds-name_of_module-end c = search cases

pub evaluate-requires : goal.evaluate-requires
evaluate-requires c = search (before_asked, cases, rules)

pub enum_known-refusal : goal.enum_known-refusal
enum_known-refusal c = search cases

pub overflow_add-result : goal.overflow_add-result
overflow_add-result c = search cases

pub shape_of-work-in-Err : goal.shape_of-work-in-Err
shape_of-work-in-Err c = search cases

pub returns-in-Err : goal.returns-in-Err
returns-in-Err c = search cases

pub enum_known-r : goal.enum_known-r
enum_known-r c = search cases

pub overflow_add-count : goal.overflow_add-count
overflow_add-count c = search cases

pub loop-i-preserved : goal.loop-i-preserved
loop-i-preserved c =
    elim c.if-has.branch [
      | then-has+in-Ok w ↦ rw (w.work-is, w.count-is, w.s-is)
          (going_kept _ _ _ _ _ _ _ _ _ _ _ c.loop-i.invariant _ c.requires.asked c.loop-i-test.true c.has.ensures w.if-has.true _ _
          w.evaluate.ensures _ (search rules) w.in-Ok.is)
      | else-has w ↦ rw (w.work-is, w.count-is, w.s-is)
          (going_passed _ _ _ _ _ _ _ _ _ _ _ c.loop-i.invariant _ c.requires.asked c.loop-i-test.true c.has.ensures w.if-has.false)
    ]

pub evaluate_asked-requires : goal.evaluate_asked-requires
evaluate_asked-requires c = search (resumed_asked, asked_within, few_asked, rules)

pub shape_of-work : goal.shape_of-work
shape_of-work c = search cases

pub returns : goal.returns
returns c = search cases
