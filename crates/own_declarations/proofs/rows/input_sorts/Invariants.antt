-- `own_declarations::rows::input_sorts` meets its contract.
-- Assumes nothing.
use Rattle.text_names.specs.Joint.{joint}
use Rattle.form.specs.Memory.{part}
use Rattle.own_declarations.proofs.Made.{Gathering}
use Rattle.own_declarations.proofs.rows.input_sorts.Given as goal

abbrev pub invariant-loop-i : goal.invariant-loop-i
invariant-loop-i l = Gathering (joint l.library l.text) (part l.work 0 l.t) l.work l.own l.d l.n l.sorts l.i
