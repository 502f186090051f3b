-- `form_rows::entries::home_at` meets its contract.
-- Assumes nothing.
use Rattle.form_rows.proofs.Scans.{home_found}
use borrow.Author.Rules.{rules}
use Rattle.form_rows.proofs.entries.home_at.Goals as goal

pub returns : goal.returns
returns c = search (home_found, rules)
