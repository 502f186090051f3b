-- `read_entries::declarations::read_names` meets its contract. The loop keeps what is to be read: what was at first comes to what is now.
-- Assumes nothing.
use Rattle.std.proofs.Common.{◌-◌}
use Rattle.read_steps.specs.Model.{names}
use Rattle.read_steps.proofs.Lists.{Comes}
use Rattle.read_entries.proofs.declarations.read_names.Given as goal

abbrev pub invariant-loop : goal.invariant-loop
invariant-loop l = Comes (names l.text l.limit l.comma l.role) (names l.text (l.limit - l.counter) l.comma l.role) l.initial.here l.initial.tape l.here l.tape
