-- `form_rows::entries::put_three` meets its contract.
-- Assumes nothing.
use Rattle.form_rows.proofs.Moves.{three_put}
use borrow.Author.Rules.{rules}
use Rattle.form_rows.proofs.entries.put_three.Goals as goal

pub returns : goal.returns
returns c = search (three_put, rules)
