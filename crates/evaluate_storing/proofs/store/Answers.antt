-- `evaluate_storing::store` meets its contract. Assumes nothing.
use Rattle.evaluate_storing.proofs.Cases.{cases}
use Rattle.evaluate_storing.proofs.store.Goals as goal

pub keep_at-kept-requires : goal.keep_at-kept-requires
keep_at-kept-requires c = search cases

pub next_cursor-requires : goal.next_cursor-requires
next_cursor-requires c = search cases

pub returns : goal.returns
returns c = search cases
