-- Scans over places of the tape: c places from i on.
use Rattle.std.specs.Prelude.{ℕ, zero, suc, Bool, true, false}
use Rattle.meaning.specs.Lists.{pick}
use Rattle.meaning.specs.Checks.{Check, fine, ◌>>◌}

-- one of the places passes
unfoldable pub found : (ℕ → Bool) → ℕ → ℕ → Bool
found p i zero = false
found p i (suc c) = let more = found p (suc i) c in pick (p i) true more

-- what is told at each place in turn, up to the first refusal
unfoldable pub walked : (ℕ → Check) → ℕ → ℕ → Check
walked f i zero = fine tt
walked f i (suc c) = f i >> walked f (suc i) c

-- the first of the places that passes; the place behind them if none does
unfoldable pub first_of : (ℕ → Bool) → ℕ → ℕ → ℕ
first_of p i zero = i
first_of p i (suc c) = let more = first_of p (suc i) c in pick (p i) i more
