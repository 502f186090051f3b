-- `form_rows::entries::inputs_from` meets its contract.
-- Assumes nothing.
use Rattle.form_rows.proofs.Scans.{count_none, count_on, count_stop, count_end}
use borrow.Author.Rules.{rules}
use Rattle.form_rows.proofs.entries.inputs_from.Goals as goal

pub loop-j-init : goal.loop-j-init
loop-j-init c = search (count_none, rules)

pub returns-then-role_at-ne-INPUT : goal.returns-then-role_at-ne-INPUT
returns-then-role_at-ne-INPUT c = search (count_stop, rules)

pub loop-j-preserved : goal.loop-j-preserved
loop-j-preserved c = search (count_on, rules)

pub returns : goal.returns
returns c = search (count_end, rules)
