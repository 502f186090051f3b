-- `text_comparing::compare_numbers` meets its contract.
-- Assumes nothing.
use Rattle.text_comparing.proofs.AtOnce.{not_seen, number_told}
use borrow.Author.Rules.{rules}
use Rattle.text_comparing.proofs.compare_numbers.Goals as goal

pub returns-then-has_zeros : goal.returns-then-has_zeros
returns-then-has_zeros c = search (not_seen, rules)

pub returns-then-has_zeros-2 : goal.returns-then-has_zeros-2
returns-then-has_zeros-2 c = search (not_seen, rules)

pub returns : goal.returns
returns c = search (number_told, rules)
