-- `input_lines::has_library_line` meets its contract.
-- Assumes nothing.
use Rattle.input_lines.proofs.Cases.{cases}
use Rattle.input_lines.proofs.has_library_line.Goals as goal

pub returns-then-rest-e : goal.returns-then-rest-e
returns-then-rest-e c = search cases

pub returns-then-e-gt17 : goal.returns-then-e-gt17
returns-then-e-gt17 c = search cases

pub slice_bounds-same_bytes-end : goal.slice_bounds-same_bytes-end
slice_bounds-same_bytes-end c = search cases

pub slice_bounds-said_by-count : goal.slice_bounds-said_by-count
slice_bounds-said_by-count c = search cases

pub slice_bounds-said_by-start : goal.slice_bounds-said_by-start
slice_bounds-said_by-start c = search cases

pub slice_bounds-is_decimal-count : goal.slice_bounds-is_decimal-count
slice_bounds-is_decimal-count c = search cases

pub slice_bounds-is_decimal-start : goal.slice_bounds-is_decimal-start
slice_bounds-is_decimal-start c = search cases

pub returns-then-same_bytes : goal.returns-then-same_bytes
returns-then-same_bytes c = search cases

pub returns : goal.returns
returns c = search cases
