-- `clause_translation::rows::moved_sorts` meets its contract.
-- Assumes nothing.
use Rattle.clause_translation.proofs.MovedRows.{Moving}
use Rattle.text_names.specs.Joint.{joint}
use Rattle.form.specs.Memory.{part}
use Rattle.clause_translation.proofs.rows.moved_sorts.Given as goal

abbrev pub invariant-loop-i : goal.invariant-loop-i
invariant-loop-i l = Moving (joint l.library l.text) (part l.work 0 l.t) l.work l.m l.initial.moved l.moved l.i
