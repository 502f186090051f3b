-- `read_entries::imports::read_imports` meets its contract. The loop keeps what is to be read: what was at first comes to what is now.
-- Assumes nothing.
use Rattle.std.proofs.Common.{◌-◌}
use Rattle.read_steps.specs.Model.{separated, import_expression, imports}
use Rattle.meaning.specs.Numbers.{import_limit}
use Rattle.meaning.specs.Names.{byte}
use Rattle.meaning.specs.Grammar.{is_name}
use Rattle.read_steps.proofs.Lists.{Comes}
use Rattle.read_entries.proofs.imports.read_imports.Given as goal

abbrev pub invariant-loop : goal.invariant-loop
invariant-loop l = Comes (imports l.text) (separated l.text (import_limit - l.counter) (byte ",") is_name (import_expression l.text)) l.initial.here l.initial.tape l.here l.tape
