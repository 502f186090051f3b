-- `unite_slots::has_slot` meets its contract.
-- Assumes nothing.
use Rattle.text_names.specs.Joint.{joint}
use Rattle.form.specs.Forms.{slot_at}
use Rattle.meaning.specs.Normal.{same_slot}
use Rattle.form_walks.specs.Rows.{Seeking}
use Rattle.unite_slots.proofs.has_slot.Given as goal

abbrev pub invariant-loop-i : goal.invariant-loop-i
invariant-loop-i l = Seeking (same_slot (slot_at (joint l.library l.text) l.work l.q)) (joint l.library l.text) l.work l.base l.count l.i
