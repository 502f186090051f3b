-- `form_rows::rows::write_origin` meets its contract.
-- Assumes nothing.
use Rattle.form_rows.proofs.Moves.{origin_written}
use borrow.Author.Rules.{rules}
use Rattle.form_rows.proofs.rows.write_origin.Goals as goal

pub returns : goal.returns
returns c = search (origin_written, rules)
