-- `form_rows::entries::sort_place` meets its contract.
-- Assumes nothing.
use Rattle.form_rows.proofs.Scans.{sort_found}
use borrow.Author.Rules.{rules}
use Rattle.form_rows.proofs.entries.sort_place.Goals as goal

pub returns : goal.returns
returns c = search (sort_found, rules)
