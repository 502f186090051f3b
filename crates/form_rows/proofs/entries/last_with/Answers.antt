-- `form_rows::entries::last_with` meets its contract.
-- Assumes nothing.
use Rattle.form_rows.proofs.Auto.{on, done}
use Rattle.form_rows.proofs.Scans.{last_here, last_on, last_none}
use borrow.Author.Rules.{rules}
use Rattle.form_rows.proofs.entries.last_with.Goals as goal

pub returns-then-role_at-role : goal.returns-then-role_at-role
returns-then-role_at-role c = search (done, last_here, rules)

pub loop-j-preserved : goal.loop-j-preserved
loop-j-preserved c = search (on, last_on, rules)

pub returns : goal.returns
returns c = search (done, last_none, rules)
