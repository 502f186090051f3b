-- `reader::line_at` meets its contract.
-- Assumes nothing.
use Rattle.text_names.proofs.Runs.{run_from}
use Rattle.reader.proofs.Cases.{line_past, line_none, line_open, line_unmarked, line_unknown, line_keyed}
use borrow.Author.Rules.{rules}
use Rattle.reader.proofs.line_at.Goals as goal

pub returns-then-listing-at : goal.returns-then-listing-at
returns-then-listing-at c = search (line_past, rules)

pub returns-then-at-listing : goal.returns-then-at-listing
returns-then-at-listing c = search (line_none, rules)

pub slice_bounds-key_number-count : goal.slice_bounds-key_number-count
slice_bounds-key_number-count c = search (run_from, rules)

pub slice_bounds-key_number-start : goal.slice_bounds-key_number-start
slice_bounds-key_number-start c = search (run_from, rules)

pub returns-then-n-eq0 : goal.returns-then-n-eq0
returns-then-n-eq0 c = search (line_unknown, rules)

pub returns-then-k-e : goal.returns-then-k-e
returns-then-k-e c = search (line_keyed, rules)

pub returns-else-k-e : goal.returns-else-k-e
returns-else-k-e c = search (line_unmarked, rules)

pub returns-else-e-listing : goal.returns-else-e-listing
returns-else-e-listing c = search (line_open, rules)
