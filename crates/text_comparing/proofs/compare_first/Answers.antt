-- `text_comparing::compare_first` meets its contract.
-- Assumes nothing.
use Rattle.text_comparing.proofs.AtOnce.{not_seen, digit_so, run_in_front, run_behind, byte_less, byte_more}
use borrow.Author.Rules.{rules}
use Rattle.text_comparing.proofs.compare_first.Goals as goal

pub compare_numbers-requires : goal.compare_numbers-requires
compare_numbers-requires c = search (digit_so, rules)

pub returns-then-is_digit : goal.returns-then-is_digit
returns-then-is_digit c = search (run_in_front, rules)

pub returns-then-is_digit-3 : goal.returns-then-is_digit-3
returns-then-is_digit-3 c = search (run_behind, rules)

pub returns-then-p-q : goal.returns-then-p-q
returns-then-p-q c = search (byte_less, rules)

pub returns-then-q-p : goal.returns-then-q-p
returns-then-q-p c = search (byte_more, rules)

pub returns : goal.returns
returns c = search (not_seen, rules)
