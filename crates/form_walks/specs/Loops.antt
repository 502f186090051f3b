-- A loop over places: it asks a test of one thing after the other, and stops at the first that passes.
use Rattle.std.specs.Prelude.{◌≡◌, refl, Bool, true, false, List, [], ◌∷◌, length}
use Rattle.std.proofs.Common.{sym, ap}
use Prim.Native.Nat.{ℕ, zero, suc, ◌+◌, ◌-◌, ◌≤◌, ◌<◌}
use native.Mathlib.Omega.{arith}
use Rattle.std.proofs.Math.Numerals.{add-one}
use Rattle.meaning.specs.Lists.{pick, any, before}
use Rattle.form_walks.specs.Lists.{found, none_found}

-- c things from place i on
unfoldable pub listed : {A : Type 0} → (ℕ → A) → ℕ → ℕ → List A
listed at i zero = []
listed at i (suc c) = at i ∷ listed at (suc i) c

length_listed : {A : Type 0} (at : ℕ → A) (c i : ℕ) → length (listed at i c) ≡ c
unfolding listed
length_listed at zero i = refl
length_listed at (suc c) i = ap suc (length_listed at c (suc i))

-- of n things those before i do not pass
pub record Asking {A : Type 0} (at : ℕ → A) (test : A → Bool) (n i : ℕ) : Type 0 where
  pub inside : i ≤ n
  pub comes : before test (listed at 0 n) ≡ i + before test (listed at i (n - i))

module _ {A : Type 0} (at : ℕ → A) (test : A → Bool) (n : ℕ) where
  abbrev all : List A
  all = listed at 0 n

  pub ask_start : Asking at test n 0
  ask_start =
      let e : n ≡ n - 0 = omega arith in
      let q : before test all ≡ before test (listed at 0 (n - 0)) = ap (λ (c : ℕ). before test (listed at 0 c)) e in
      record { inside = omega arith; comes = omega arith }

  module _ (i : ℕ) (h : n ≤ i) (inv : Asking at test n i) where
    pub ask_end : n ≡ before test all
    unfolding before listed
    ask_end =
        let z : n - i ≡ 0 = omega arith in
        let none : before test (listed at i (n - i)) ≡ 0 = rw z in
        omega (arith, inv.comes, inv.inside)

    pub none_passes : false ≡ any test all
    none_passes = sym (none_found test all (omega (arith, ask_end, length_listed at n 0)))

  module _ (i : ℕ) (r : Bool) (h : i < n) (inv : Asking at test n i) (e : r ≡ test (at i)) where
    asked : before test (listed at i (n - i)) ≡ pick r 0 (suc (before test (listed at (i + 1) (n - (i + 1)))))
    unfolding before listed
    asked = let s : n - i ≡ suc (n - (i + 1)) = omega arith in rw (s, ← e, add-one i)

    pub ask_again : r ≡ false → Asking at test n (i + 1)
    unfolding pick
    ask_again q = let more = rw q at asked in record { inside = omega arith; comes = omega (arith, inv.comes, more) }

    pub ask_here : r ≡ true → i ≡ before test all
    unfolding pick
    ask_here q = let none = rw q at asked in omega (arith, inv.comes, none)

    pub one_passes : r ≡ true → true ≡ any test all
    one_passes q = sym (found test all (omega (arith, h, ask_here q, length_listed at n 0)))
