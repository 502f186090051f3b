-- `text_comparing::compare_sizes` meets its contract.
-- Assumes nothing.
use Rattle.text_spelling.proofs.Auto.{on, done}
use Rattle.text_comparing.proofs.AtOnce.{digit_fits, digit_less, sizes_first, sizes_second, sizes_level, sizes_on}
use borrow.Author.Rules.{rules}
use Rattle.text_comparing.proofs.compare_sizes.Goals as goal

pub returns-then-not-digit_at : goal.returns-then-not-digit_at
returns-then-not-digit_at c = search (done, sizes_first, rules)

pub overflow_add-i : goal.overflow_add-i
overflow_add-i c = search (digit_fits, rules)

pub loop-level-smaller : goal.loop-level-smaller
loop-level-smaller c = digit_less c.args.a.now c.loop-level.i _ c.digit_at.ensures c.loop-level-test.true

pub loop-level-preserved : goal.loop-level-preserved
loop-level-preserved c = search (on, sizes_on, rules)

pub returns-then-digit_at : goal.returns-then-digit_at
returns-then-digit_at c = search (done, sizes_second, rules)

pub returns : goal.returns
returns c = search (done, sizes_level, rules)
