-- `read_modules::read_modules` meets its contract. The loop keeps what is to be read: what was at first comes to what is now.
-- Assumes nothing.
use Rattle.std.proofs.Common.{◌-◌}
use Rattle.read_steps.specs.Model.{modules}
use Rattle.read_steps.proofs.Lists.{Comes}
use Rattle.read_known.specs.Known.{named_so}
use Rattle.read_modules.proofs.read_modules.Given as goal

abbrev pub invariant-loop : goal.invariant-loop
invariant-loop l =
    Comes (modules l.text l.limit (named_so l.library l.heads)) (modules l.text (l.limit - l.counter) (named_so l.library l.heads)) l.initial.here l.initial.tape l.here l.tape
