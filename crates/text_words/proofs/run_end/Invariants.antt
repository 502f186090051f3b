-- `text_words::run_end` meets its contract.
-- Assumes nothing.
use mathlib.Core.Path.{◌≡◌}
use mathlib.Core.Bool.{Bool}
use Prim.Native.Nat.{ℕ}
use Rattle.meaning.specs.Tokens.{run_end}
use Rattle.text_words.specs.Tests.{Tells, in_front}
use Rattle.text_words.proofs.run_end.Given as goal

abbrev pub invariant-loop-i : goal.invariant-loop-i
invariant-loop-i g l =
    (test : ℕ → Bool) → Tells (goal.F-post g l.passes) test → run_end (in_front test) l.text l.at ≡ run_end (in_front test) l.text l.i
