-- `own_declarations::rows::own_rows` meets its contract.
-- Assumes nothing.
use Rattle.text_names.specs.Joint.{joint}
use Rattle.own_declarations.proofs.Made.{Appending}
use Rattle.own_declarations.proofs.rows.own_rows.Given as goal

abbrev pub invariant-loop-i : goal.invariant-loop-i
invariant-loop-i l = Appending (joint l.library l.text) l.t l.own l.hidden l.base l.n l.initial.work l.work l.k l.i
