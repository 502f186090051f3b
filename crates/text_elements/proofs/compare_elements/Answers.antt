-- `text_elements::compare_elements` meets its contract.
-- Assumes nothing.
use Rattle.text_elements.proofs.Elements.{cases, both_runs, run_before, run_after, both_others}
use borrow.Author.Rules.{rules}
use Rattle.text_elements.proofs.compare_elements.Goals as goal

pub compare_runs-requires : goal.compare_runs-requires
compare_runs-requires c = search cases

pub returns-then-is_digit-2 : goal.returns-then-is_digit-2
returns-then-is_digit-2 c = search (both_runs, rules)

pub returns-then-is_digit : goal.returns-then-is_digit
returns-then-is_digit c = search (run_before, rules)

pub returns-then-is_digit-3 : goal.returns-then-is_digit-3
returns-then-is_digit-3 c = search (run_after, rules)

pub returns : goal.returns
returns c = search (both_others, rules)
