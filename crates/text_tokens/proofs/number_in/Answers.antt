-- `text_tokens::number_in` meets its contract: what is left of the table is searched as the whole is, with the number of the next word.
-- Assumes nothing.
use Rattle.text_names.proofs.Auto.{on, done, told}
use Rattle.text_names.proofs.Runs.{run_from, run_to}
use Rattle.text_tokens.proofs.Keywords.{run_less, run_count, table_hit, table_miss, table_last}
use borrow.Author.Rules.{rules}
use Rattle.text_tokens.proofs.number_in.Goals as goal

pub returns-then-same_bytes : goal.returns-then-same_bytes
returns-then-same_bytes c = search (done, table_hit, told, rules)

pub returns-then-table-e : goal.returns-then-table-e
returns-then-table-e c = search (done, table_last, told, rules)

pub loop-at-smaller : goal.loop-at-smaller
loop-at-smaller c = search (run_less, rules)

pub loop-at-preserved : goal.loop-at-preserved
loop-at-preserved c = (search rules, search (run_count, rules), search (on, table_miss, told, rules))

pub slice_bounds-same_bytes-count : goal.slice_bounds-same_bytes-count
slice_bounds-same_bytes-count c = search (run_from, rules)

pub slice_bounds-same_bytes-start : goal.slice_bounds-same_bytes-start
slice_bounds-same_bytes-start c = search (run_from, rules)

pub slice_bounds-same_bytes-end : goal.slice_bounds-same_bytes-end
slice_bounds-same_bytes-end c = search (run_to, rules)
