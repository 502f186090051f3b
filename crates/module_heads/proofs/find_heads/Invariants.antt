-- `module_heads::find_heads` meets its contract.
-- Assumes nothing.
use Rattle.module_heads.proofs.Cases.{Begun}
use Rattle.module_heads.proofs.find_heads.Given as goal

abbrev pub invariant-loop-j : goal.invariant-loop-j
invariant-loop-j l = Begun l.tape l.n l.h l.count l.j
