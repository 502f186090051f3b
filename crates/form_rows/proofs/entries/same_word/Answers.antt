-- `form_rows::entries::same_word` meets its contract.
-- Assumes nothing.
use Rattle.form_rows.proofs.Scans.{one_word}
use borrow.Author.Rules.{rules}
use Rattle.form_rows.proofs.entries.same_word.Goals as goal

pub returns-then-a-b : goal.returns-then-a-b
returns-then-a-b c = search (one_word, rules)
