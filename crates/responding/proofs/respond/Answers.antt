-- `responding::respond` meets its contract.
-- Assumes nothing.
use Rattle.responding.proofs.Cases.{cases, respond_asked, respond_unasked}
use borrow.Author.Rules.{rules}
use Rattle.responding.proofs.respond.Goals as goal

pub overflow_add-limit : goal.overflow_add-limit
overflow_add-limit c = search cases

pub has_request-requires : goal.has_request-requires
has_request-requires c = search cases

pub slice_bounds-answer_behind-count : goal.slice_bounds-answer_behind-count
slice_bounds-answer_behind-count c = search cases

pub slice_bounds-answer_behind-start : goal.slice_bounds-answer_behind-start
slice_bounds-answer_behind-start c = search cases

pub slice_bounds-answer_behind-end : goal.slice_bounds-answer_behind-end
slice_bounds-answer_behind-end c = search cases

pub overflow_add-e : goal.overflow_add-e
overflow_add-e c = search cases

pub slice_bounds-answer_behind-count-then-has_request : goal.slice_bounds-answer_behind-count-then-has_request
slice_bounds-answer_behind-count-then-has_request c = search cases

pub slice_bounds-answer_behind-start-then-has_request : goal.slice_bounds-answer_behind-start-then-has_request
slice_bounds-answer_behind-start-then-has_request c = search cases

pub slice_bounds-answer_behind-end-then-has_request : goal.slice_bounds-answer_behind-end-then-has_request
slice_bounds-answer_behind-end-then-has_request c = search cases

pub shape_of-work-then-has_request : goal.shape_of-work-then-has_request
shape_of-work-then-has_request c = search cases

pub shape_of-out-then-has_request : goal.shape_of-out-then-has_request
shape_of-out-then-has_request c = search cases

pub shape_of-page-then-has_request : goal.shape_of-page-then-has_request
shape_of-page-then-has_request c = search cases

pub returns-then-has_request : goal.returns-then-has_request
returns-then-has_request c = search (respond_asked, c.put_answer.ensures, c.answer_behind-r, c.answer_behind-r.ensures, c.if-has_request.true, c.has_request.ensures, c.line_end-e.ensures, rules)

pub shape_of-work : goal.shape_of-work
shape_of-work c = search cases

pub shape_of-page : goal.shape_of-page
shape_of-page c = search cases

pub returns : goal.returns
returns c = search (respond_unasked, c.put_answer-2.ensures, c.refuse-r.ensures, c.unread-none.ensures, c.if-has_request.false, c.has_request.ensures, c.line_end-e.ensures, rules)
