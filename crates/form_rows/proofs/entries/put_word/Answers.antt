-- `form_rows::entries::put_word` meets its contract.
-- Assumes nothing.
use Rattle.form_rows.proofs.Scans.{put_past}
use borrow.Author.Rules.{rules}
use Rattle.form_rows.proofs.entries.put_word.Goals as goal

pub returns-else-i-t : goal.returns-else-i-t
returns-else-i-t c = search (put_past, rules)
