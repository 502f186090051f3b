-- `form_rows::rows::read_origin` meets its contract.
-- Assumes nothing.
use Rattle.form_rows.proofs.Moves.{origin_read}
use borrow.Author.Rules.{rules}
use Rattle.form_rows.proofs.rows.read_origin.Goals as goal

pub returns : goal.returns
returns c = search (origin_read, rules)
