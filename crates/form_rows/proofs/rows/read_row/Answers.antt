-- `form_rows::rows::read_row` meets its contract.
-- Assumes nothing.
use Rattle.form_rows.proofs.Moves.{row_read}
use borrow.Author.Rules.{rules}
use Rattle.form_rows.proofs.rows.read_row.Goals as goal

pub returns : goal.returns
returns c = search (row_read, rules)
