-- `read::wipe` meets its contract.
-- Assumes nothing.
use Rattle.std.proofs.Common.{◌≡◌, ℕ, ◌<◌, length, slice_index, rules}
use Rattle.std.proofs.lemmas.List.{places}
use Rattle.read.proofs.Cases.{wiped_done, wiped_refused}
use Rattle.read.proofs.wipe.Goals as goal

pub returns-then-is_err : goal.returns-then-is_err
returns-then-is_err c =
    let zeros : (k : ℕ) → k < length c.args.tape.now → slice_index c.fill.new.self k ≡ 0 = search (rules, places) in
    search (wiped_refused, zeros, rules)

pub returns-else-is_err : goal.returns-else-is_err
returns-else-is_err c = search (wiped_done, rules)
