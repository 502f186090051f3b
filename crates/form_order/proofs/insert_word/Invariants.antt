-- `form_order::insert_word` meets its contract. Assumes nothing.
use Rattle.form_order.proofs.Cases.{Moved}
use Rattle.form_order.proofs.insert_word.Given as goal

abbrev pub invariant-loop-k : goal.invariant-loop-k
invariant-loop-k l = Moved l.a l.e l.initial.w l.w l.k
