-- `unite_equations::has_equation` meets its contract.
-- Assumes nothing.
use Rattle.unite_equations.proofs.Turns.{Seeking}
use Rattle.text_names.specs.Joint.{joint}
use Rattle.unite_equations.proofs.has_equation.Given as goal

abbrev pub invariant-loop-i : goal.invariant-loop-i
invariant-loop-i l = Seeking (joint l.library l.text) l.t l.work l.f l.q l.n l.i
