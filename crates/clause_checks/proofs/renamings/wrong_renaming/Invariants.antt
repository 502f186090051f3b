-- `clause_checks::renamings::wrong_renaming` meets its contract.
-- Assumes nothing.
use Rattle.clause_checks.proofs.RenamingCases.{Checking}
use Rattle.text_names.specs.Joint.{joint}
use Rattle.form.specs.Memory.{part}
use Rattle.form.specs.Forms.{items_at}
use Rattle.clause_checks.proofs.renamings.wrong_renaming.Given as goal

abbrev pub invariant-loop-k : goal.invariant-loop-k
invariant-loop-k l =
    Checking (items_at (joint l.library l.text) (part l.work 0 l.t) l.work l.visible l.count) (joint l.library l.text) (part l.work 0 l.t) l.pairs l.n l.k
