-- `input_lines::framed` meets its contract.
-- Assumes nothing.
use Rattle.input_lines.proofs.Cases.{cases}
use Rattle.input_lines.proofs.framed.Goals as goal

pub slice_bounds-said_by-count : goal.slice_bounds-said_by-count
slice_bounds-said_by-count c = search cases

pub slice_bounds-said_by-start : goal.slice_bounds-said_by-start
slice_bounds-said_by-start c = search cases

pub slice_bounds-said_by-end : goal.slice_bounds-said_by-end
slice_bounds-said_by-end c = search cases

pub said_by-size-requires : goal.said_by-size-requires
said_by-size-requires c = search cases

pub returns-then-size-gt-TEXT_SIZE : goal.returns-then-size-gt-TEXT_SIZE
returns-then-size-gt-TEXT_SIZE c = search cases

pub returns-then-to-rest : goal.returns-then-to-rest
returns-then-to-rest c = search cases

pub returns-then-has_library_line : goal.returns-then-has_library_line
returns-then-has_library_line c = search cases

pub returns : goal.returns
returns c = search cases
