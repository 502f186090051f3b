-- `unite_items::absorb_within` meets its contract.
-- Assumes nothing.
use Rattle.unite_items.proofs.Loops.{Absorbing}
use Rattle.text_names.specs.Joint.{joint}
use Rattle.unite_items.proofs.absorb_within.Given as goal

abbrev pub invariant-loop-k : goal.invariant-loop-k
invariant-loop-k l = Absorbing (joint l.library l.text) l.initial.work l.t l.m l.visible l.drop l.s l.ns l.d l.nd l.o l.cap l.work l.n l.k
