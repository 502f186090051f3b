-- `text_spelling::same_bytes` meets its contract.
-- Assumes nothing.
use Rattle.text_spelling.proofs.Auto.{on, done}
use Rattle.text_spelling.proofs.Same.{same_lengths, same_on, same_off, same_end}
use borrow.Author.Rules.{rules}
use Rattle.text_spelling.proofs.same_bytes.Goals as goal

pub returns-then-a-b : goal.returns-then-a-b
returns-then-a-b c = search (same_lengths, rules)

pub returns-then-a-i : goal.returns-then-a-i
returns-then-a-i c = search (done, same_off, rules)

pub loop-i-preserved : goal.loop-i-preserved
loop-i-preserved c = search (on, same_on, rules)

pub returns : goal.returns
returns c = search (done, same_end, rules)
