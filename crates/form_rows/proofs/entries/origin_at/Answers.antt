-- `form_rows::entries::origin_at` meets its contract.
-- Assumes nothing.
use Rattle.form_rows.proofs.Scans.{origin_found}
use borrow.Author.Rules.{rules}
use Rattle.form_rows.proofs.entries.origin_at.Goals as goal

pub returns : goal.returns
returns c = search (origin_found, rules)
