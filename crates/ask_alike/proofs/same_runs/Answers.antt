-- `ask_alike::same_runs` meets its contract.
-- Assumes nothing.
use Rattle.ask_alike.proofs.Cases.{cases}
use Rattle.ask_alike.proofs.same_runs.Goals as goal

pub returns-then-n-m : goal.returns-then-n-m
returns-then-n-m c = search cases

pub returns : goal.returns
returns c = search cases
