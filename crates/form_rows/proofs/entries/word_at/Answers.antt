-- `form_rows::entries::word_at` meets its contract.
-- Assumes nothing.
use Rattle.form_rows.proofs.Scans.{past_end}
use borrow.Author.Rules.{rules}
use Rattle.form_rows.proofs.entries.word_at.Goals as goal

pub returns-else-i-t : goal.returns-else-i-t
returns-else-i-t c = search (past_end, rules)
