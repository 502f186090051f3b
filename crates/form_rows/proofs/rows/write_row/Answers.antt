-- `form_rows::rows::write_row` meets its contract.
-- Assumes nothing.
use Rattle.form_rows.proofs.Moves.{row_written}
use borrow.Author.Rules.{rules}
use Rattle.form_rows.proofs.rows.write_row.Goals as goal

pub returns : goal.returns
returns c = search (row_written, rules)
