-- `form_rows::entries::same_name_at` meets its contract.
-- Assumes nothing.
use Rattle.form_rows.proofs.Scans.{names_there}
use borrow.Author.Rules.{rules}
use Rattle.form_rows.proofs.entries.same_name_at.Goals as goal

pub returns : goal.returns
returns c = search (names_there, rules)
