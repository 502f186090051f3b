-- `form_rows::entries::arity_at` meets its contract.
-- Assumes nothing.
use Rattle.form_rows.proofs.Scans.{arity_fits, arity_counted}
use borrow.Author.Rules.{rules}
use Rattle.form_rows.proofs.entries.arity_at.Goals as goal

pub overflow_cast-result : goal.overflow_cast-result
overflow_cast-result c = search (arity_fits, rules)

pub returns : goal.returns
returns c = search (arity_counted, rules)
