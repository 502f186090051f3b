-- What a test of a byte, handed over as a closure, tells.
use Rattle.std.specs.Prelude.{◌≡◌, ℕ, ◌<◌, Bool, List, get_or}

-- each answer that a call may give is that of the test
abbrev pub Tells : (ℕ → Bool → Type 0) → (ℕ → Bool) → Type 0
Tells post test = (b : ℕ) (r : Bool) → b < 256 → post b r → r ≡ test b

-- the test of the byte in front
abbrev pub in_front : (ℕ → Bool) → List ℕ → Bool
in_front test = λ s. test (get_or s 0 0)
