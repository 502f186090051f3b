-- One law for each way through the code, in the code's terms.
use mathlib.Core.Path.{◌≡◌, sym}
use mathlib.Core.Bool.{Bool, true, false}
use mathlib.Core.List.{List, [], ◌∷◌}
use Prim.Native.Nat.{ℕ, ◌+◌, ◌≤◌}
use borrow.Author.Rules.{rules}
use lib.ListN.{length, set}
use lib.Seq.{set_out}
use Rattle.std.specs.Int.{from_bool}
use Rattle.meaning.specs.Lists.{pick}
use Rattle.values_c.specs.Values.{laid, bit_of}

module _ (xs : List ℕ) (i : ℕ) where
  pub no_room : (v : ℕ) → length xs ≤ i → xs ≡ set xs i v
  no_room v h = sym (set_out xs i v h)

  pub three_laid : (a b c : ℕ) (xs₁ xs₂ xs₃ : List ℕ) → xs₁ ≡ set xs i a → xs₂ ≡ set xs₁ (i + 1) b → xs₃ ≡ set xs₂ (i + 1 + 1) c
      → xs₃ ≡ laid i (a ∷ b ∷ c ∷ []) xs
  unfolding laid
  three_laid a b c xs₁ xs₂ xs₃ e₁ e₂ e₃ = rw (e₃, e₂, e₁)

pub bit_told : (b : Bool) (r : ℕ) → r ≡ from_bool b → r ≡ bit_of b
unfolding bit_of pick
bit_told true r e = e
bit_told false r e = e

pub ruleset cases = (bit_told, no_room, three_laid, rules)
