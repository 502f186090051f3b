-- `own_finding::find::find_function` meets its contract.
-- Assumes nothing.
use mathlib.Core.List.{map}
use lib.ListN.{take}
use Rattle.text_names.specs.Word.{name_of}
use Rattle.text_names.specs.Joint.{joint}
use Rattle.form_rows.specs.Rows.{sort_of}
use Rattle.form.specs.Memory.{part}
use Rattle.own_finding.specs.Known.{function_called}
use Rattle.form_walks.specs.Rows.{Finding}
use Rattle.own_finding.proofs.find.find_function.Given as goal

abbrev pub invariant-loop-i : goal.invariant-loop-i
invariant-loop-i l =
    Finding (function_called (name_of (joint l.library l.text) l.w) (map (sort_of (joint l.library l.text) (part l.work 0 l.t)) (take l.count l.sorts))) (joint l.library l.text) (part l.work 0 l.t) l.work l.b l.n l.i
