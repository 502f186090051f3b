-- `unite_parameters::all_among` meets its contract.
-- Assumes nothing.
use Rattle.text_names.specs.Joint.{joint}
use Rattle.form.specs.Memory.{part}
use Rattle.form.specs.Forms.{visible_at}
use Rattle.text_names.specs.Word.{name_of}
use Rattle.form_walks.specs.Rows.{Finding}
use Rattle.unite_parameters.specs.Formals.{other}
use Rattle.unite_parameters.proofs.all_among.Given as goal

abbrev pub invariant-loop-i : goal.invariant-loop-i
invariant-loop-i l = Finding (other l.typed (name_of (joint l.library l.text) l.p) (visible_at (joint l.library l.text) (part l.work 0 l.t) l.work l.f) (visible_at (joint l.library l.text) (part l.work 0 l.t) l.work l.g)) (joint l.library l.text) (part l.work 0 l.t) l.work l.base l.count l.i
