-- Laws of zeroed memory, and how much there is.
use mathlib.Core.Path.{◌≡◌, refl, ap}
use mathlib.Core.List.{List, [], ◌∷◌}
use Prim.Native.Nat.{ℕ}
use native.Mathlib.Omega.{arith}
use borrow.Author.Rules.{rules}
use lib.ListN.{length}
use Rattle.meaning.specs.Numbers.{memory_size}
use Rattle.meaning.specs.Answer.{memory_after}

-- zeros are zeros, whatever stood there
pub same_zeros : (w v : List ℕ) → length w ≡ length v → memory_after w ≡ memory_after v
unfolding memory_after
same_zeros [] [] e = refl
same_zeros [] (y ∷ v) e = absurd (omega (arith, e))
same_zeros (x ∷ w) [] e = absurd (omega (arith, e))
same_zeros (x ∷ w) (y ∷ v) e = ap (λ (r : List ℕ). 0 ∷ r) (same_zeros w v (omega (arith, e)))

-- ---- how much there is

pub is_size : 1048576 ≡ memory_size
unfolding memory_size
is_size = refl

pub ruleset cases = (is_size, rules)
