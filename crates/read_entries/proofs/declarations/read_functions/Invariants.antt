-- `read_entries::declarations::read_functions` meets its contract. The loop keeps what is to be read: what was at first comes to what is now.
-- Assumes nothing.
use Rattle.std.proofs.Common.{◌-◌}
use Rattle.read_steps.specs.Model.{many, function}
use Rattle.meaning.specs.Numbers.{text_size}
use Rattle.meaning.specs.Grammar.{begins_function}
use Rattle.read_steps.proofs.Lists.{Comes}
use Rattle.read_entries.proofs.declarations.read_functions.Given as goal

abbrev pub invariant-loop : goal.invariant-loop
invariant-loop l =
    Comes (many l.text text_size begins_function (function l.text l.role)) (many l.text (text_size - l.counter) begins_function (function l.text l.role)) l.initial.here l.initial.tape l.here l.tape
