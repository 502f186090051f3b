-- `read_entries::imports::pair_list` meets its contract. The loop keeps what is to be read: what was at first comes to what is now.
-- Assumes nothing.
use Rattle.std.proofs.Common.{◌-◌}
use Rattle.read_steps.specs.Model.{separated, pair}
use Rattle.meaning.specs.Numbers.{pair_limit}
use Rattle.meaning.specs.Names.{byte}
use Rattle.meaning.specs.Grammar.{begins_function}
use Rattle.read_steps.proofs.Lists.{Comes}
use Rattle.read_entries.proofs.imports.pair_list.Given as goal

abbrev pub invariant-loop : goal.invariant-loop
invariant-loop l =
    Comes (separated l.text pair_limit (byte ",") begins_function (pair l.text))
    (separated l.text (pair_limit - l.counter) (byte ",") begins_function (pair l.text))
    l.initial.here l.initial.tape l.here l.tape
