-- `unite_finding::find_item` meets its contract.
-- Assumes nothing.
use Rattle.form_walks.specs.Rows.{Finding}
use Rattle.meaning.specs.Origins.{one_item}
use Rattle.text_names.specs.Joint.{joint}
use Rattle.form_rows.specs.Rows.{item_of}
use Rattle.form.specs.Memory.{part}
use Rattle.unite_finding.proofs.find_item.Given as goal

abbrev pub invariant-loop-i : goal.invariant-loop-i
invariant-loop-i l = Finding (one_item (item_of (joint l.library l.text) (part l.work 0 l.t) l.x)) (joint l.library l.text) (part l.work 0 l.t) l.work l.base l.n l.i
