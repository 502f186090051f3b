-- `text_comparing::compare_digits` meets its contract.
-- Assumes nothing.
use Rattle.text_spelling.proofs.Auto.{on, done}
use Rattle.text_comparing.proofs.AtOnce.{digit_fits, digit_less, digits_other, digits_on, digits_first, digits_second, digits_level}
use borrow.Author.Rules.{rules}
use Rattle.text_comparing.proofs.compare_digits.Goals as goal

pub returns-then-not-digit_at : goal.returns-then-not-digit_at
returns-then-not-digit_at c = search (done, digits_first, rules)

pub overflow_add-i : goal.overflow_add-i
overflow_add-i c = search (digit_fits, rules)

pub returns-then-p-q : goal.returns-then-p-q
returns-then-p-q c = search (done, digits_other, rules)

pub overflow_add-i-in-loop-at : goal.overflow_add-i-in-loop-at
overflow_add-i-in-loop-at c = search (digit_fits, rules)

pub loop-at-smaller : goal.loop-at-smaller
loop-at-smaller c = digit_less c.args.a.now c.loop-at.i _ c.digit_at.ensures c.loop-at-test.true

pub loop-at-preserved : goal.loop-at-preserved
loop-at-preserved c = search (on, digits_on, rules)

pub returns-then-digit_at : goal.returns-then-digit_at
returns-then-digit_at c = search (done, digits_second, rules)

pub returns : goal.returns
returns c = search (done, digits_level, rules)
