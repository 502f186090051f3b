-- Laws of rules that are put together from others, and all that their answers hand to `search`.
use mathlib.Core.Path.{◌≡◌}
use mathlib.Core.List.{List}
use Prim.Native.Nat.{ℕ}
use borrow.Author.Rules.{rules}
use Rattle.std.specs.Prelude.{Ok, Err}
use Rattle.read_steps.specs.Model.{Reading, Out, Writer, onward, with_word}
use Rattle.read_steps.specs.Steps.{next_in}
use Rattle.read_steps.proofs.Laws.{laws}
use Rattle.read_steps.proofs.Cases.{this_quiet}

-- a rule that remembers the word of the name that is next
pub remembers : (r : Reading) (t : List ℕ) (o : Out) (w : ℕ) (f : ℕ → Writer) → w ≡ next_in 0 r → o ≡ onward r t (f w) → o ≡ onward r t (with_word f)
unfolding onward next_in with_word
remembers (Err x) t o w f e h = h
remembers (Ok p) t o w f e h = rw e at h

pub ruleset grammar = (remembers, this_quiet, laws, rules)
