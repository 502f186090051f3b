-- `text_tokens::word_at` meets its contract.
-- Assumes nothing.
use Rattle.text_names.proofs.Auto.{on}
use Rattle.text_names.proofs.Runs.{run_from, run_to}
use Rattle.text_tokens.proofs.Cases.{word_law}
use borrow.Author.Rules.{rules}
use Rattle.text_tokens.proofs.word_at.Goals as goal

pub slice_bounds-word_kind-count : goal.slice_bounds-word_kind-count
slice_bounds-word_kind-count c = search (run_from, rules)

pub slice_bounds-word_kind-start : goal.slice_bounds-word_kind-start
slice_bounds-word_kind-start c = search (run_from, rules)

pub slice_bounds-word_kind-end : goal.slice_bounds-word_kind-end
slice_bounds-word_kind-end c = search (run_to, rules)

pub returns : goal.returns
returns c = search (on, word_law, rules)
