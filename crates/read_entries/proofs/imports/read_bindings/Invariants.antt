-- `read_entries::imports::read_bindings` meets its contract. The loop keeps what is to be read: what was at first comes to what is now.
-- Assumes nothing.
use Rattle.std.proofs.Common.{◌-◌}
use Rattle.read_steps.specs.Model.{many, bound}
use Rattle.meaning.specs.Numbers.{binding_limit}
use Rattle.meaning.specs.Grammar.{is_name}
use Rattle.read_steps.proofs.Lists.{Comes}
use Rattle.read_entries.proofs.imports.read_bindings.Given as goal

abbrev pub invariant-loop : goal.invariant-loop
invariant-loop l = Comes (many l.text binding_limit is_name (bound l.text)) (many l.text (binding_limit - l.counter) is_name (bound l.text)) l.initial.here l.initial.tape l.here l.tape
