-- `responding::answer_behind` meets its contract.
-- Assumes nothing.
use Rattle.responding.proofs.Cases.{cases}
use Rattle.responding.proofs.answer_behind.Goals as goal

pub enum_told-1 : goal.enum_told-1
enum_told-1 c = search cases

pub slice_bounds-normalise-count : goal.slice_bounds-normalise-count
slice_bounds-normalise-count c = search cases

pub slice_bounds-normalise-start : goal.slice_bounds-normalise-start
slice_bounds-normalise-start c = search cases

pub slice_bounds-normalise-end : goal.slice_bounds-normalise-end
slice_bounds-normalise-end c = search cases

pub enum_told-in-TooLong : goal.enum_told-in-TooLong
enum_told-in-TooLong c = search cases

pub enum_known-from : goal.enum_known-from
enum_known-from c = search cases

pub slice_bounds-normalise-count-in-Both : goal.slice_bounds-normalise-count-in-Both
slice_bounds-normalise-count-in-Both c = search cases

pub slice_bounds-normalise-start-in-Both : goal.slice_bounds-normalise-start-in-Both
slice_bounds-normalise-start-in-Both c = search cases

pub slice_bounds-normalise-end-in-Both : goal.slice_bounds-normalise-end-in-Both
slice_bounds-normalise-end-in-Both c = search cases

pub slice_bounds-normalise-count-in-Both-2 : goal.slice_bounds-normalise-count-in-Both-2
slice_bounds-normalise-count-in-Both-2 c = search cases

pub slice_bounds-normalise-start-in-Both-2 : goal.slice_bounds-normalise-start-in-Both-2
slice_bounds-normalise-start-in-Both-2 c = search cases

pub slice_bounds-normalise-end-in-Both-2 : goal.slice_bounds-normalise-end-in-Both-2
slice_bounds-normalise-end-in-Both-2 c = search cases

pub shape_of-work-in-Alone : goal.shape_of-work-in-Alone
shape_of-work-in-Alone c = search cases

pub shape_of-out-in-Alone : goal.shape_of-out-in-Alone
shape_of-out-in-Alone c = search cases

pub returns-in-Alone : goal.returns-in-Alone
returns-in-Alone c = search cases

pub shape_of-work-in-TooLong : goal.shape_of-work-in-TooLong
shape_of-work-in-TooLong c = search cases

pub returns-in-TooLong : goal.returns-in-TooLong
returns-in-TooLong c = search cases

pub shape_of-work-in-Both : goal.shape_of-work-in-Both
shape_of-work-in-Both c = search cases

pub shape_of-out-in-Both : goal.shape_of-out-in-Both
shape_of-out-in-Both c = search cases

pub returns-in-Both : goal.returns-in-Both
returns-in-Both c = search cases
