-- `read_equations::equations::read_groups` meets its contract. The loop keeps what is to be read: what was at first comes to what is now.
-- Assumes nothing.
use Rattle.std.proofs.Common.{◌-◌}
use Rattle.read_steps.specs.Model.{many, variable_group}
use Rattle.meaning.specs.Numbers.{text_size}
use Rattle.meaning.specs.Grammar.{is_name}
use Rattle.read_steps.proofs.Lists.{Comes}
use Rattle.read_equations.proofs.equations.read_groups.Given as goal

abbrev pub invariant-loop : goal.invariant-loop
invariant-loop l = Comes (many l.text text_size is_name (variable_group l.text)) (many l.text (text_size - l.counter) is_name (variable_group l.text)) l.initial.here l.initial.tape l.here l.tape
