-- `list_types::number_of_sort` meets its contract.
-- Assumes nothing.
use Rattle.text_names.specs.Joint.{joint}
use Rattle.list_types.proofs.Cases.{Numbering}
use Rattle.list_types.proofs.number_of_sort.Given as goal

abbrev pub invariant-loop-i : goal.invariant-loop-i
invariant-loop-i l = Numbering (joint l.library l.text) l.tape l.work l.base l.count l.d l.i
