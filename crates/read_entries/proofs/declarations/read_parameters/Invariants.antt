-- `read_entries::declarations::read_parameters` meets its contract. The loop keeps what is to be read: what was at first comes to what is now.
-- Assumes nothing.
use Rattle.std.proofs.Common.{◌-◌}
use Rattle.read_steps.specs.Model.{separated, parameter, parameters}
use Rattle.meaning.specs.Numbers.{text_size}
use Rattle.meaning.specs.Names.{byte}
use Rattle.meaning.specs.Grammar.{is_name}
use Rattle.read_steps.proofs.Lists.{Comes}
use Rattle.read_entries.proofs.declarations.read_parameters.Given as goal

abbrev pub invariant-loop : goal.invariant-loop
invariant-loop l = Comes (parameters l.text) (separated l.text (text_size - l.counter) (byte ",") is_name (parameter l.text)) l.initial.here l.initial.tape l.here l.tape
