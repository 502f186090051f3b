-- `read_equations::equations::read_equations` meets its contract. The loop keeps what is to be read: what was at first comes to what is now.
-- Assumes nothing.
use Rattle.std.proofs.Common.{◌-◌}
use Rattle.read_steps.specs.Model.{many, equation}
use Rattle.meaning.specs.Numbers.{text_size}
use Rattle.meaning.specs.Names.{byte}
use Rattle.meaning.specs.Grammar.{is}
use Rattle.read_steps.proofs.Lists.{Comes}
use Rattle.read_equations.proofs.equations.read_equations.Given as goal

abbrev pub invariant-loop : goal.invariant-loop
invariant-loop l = Comes (many l.text text_size (is (byte "[")) (equation l.text)) (many l.text (text_size - l.counter) (is (byte "[")) (equation l.text)) l.initial.here l.initial.tape l.here l.tape
