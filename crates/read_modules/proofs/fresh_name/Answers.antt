-- `read_modules::fresh_name` meets its contract.
-- Assumes nothing.
use Rattle.read_modules.proofs.Cases.{cases}
use Rattle.read_modules.proofs.fresh_name.Goals as goal

pub returns-then-again : goal.returns-then-again
returns-then-again c = search (c.in_ok-p.was, cases)

pub returns-then-known : goal.returns-then-known
returns-then-known c = search (c.in_ok-p.was, cases)

pub returns-in_err-p : goal.returns-in_err-p
returns-in_err-p c = search cases

pub returns : goal.returns
returns c = search (c.in_ok-p.was, cases)
