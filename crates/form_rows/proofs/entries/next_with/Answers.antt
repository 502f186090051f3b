-- `form_rows::entries::next_with` meets its contract.
-- Assumes nothing.
use Rattle.form_rows.proofs.Auto.{on, done}
use Rattle.form_rows.proofs.Scans.{next_here, next_on, next_none}
use borrow.Author.Rules.{rules}
use Rattle.form_rows.proofs.entries.next_with.Goals as goal

pub returns-then-role_at-role : goal.returns-then-role_at-role
returns-then-role_at-role c = search (done, next_here, rules)

pub loop-j-preserved : goal.loop-j-preserved
loop-j-preserved c = search (on, next_on, rules)

pub returns : goal.returns
returns c = search (done, next_none, rules)
