-- What the answers for a loop, a test and a call hand to `search`.
use mathlib.Core.Path.{◌≡◌, refl, sym, ◌∙◌}
use mathlib.Core.Bool.{Bool, true, false}
use Prim.Native.Nat.{ℕ, ◌≤◌, max}
use native.Mathlib.Omega.{arith}
use lib.Dec.{ltb}
use borrow.Author.Rules.{rules}
use borrow.Author.Tests.{ltb-true, ltb-false, lt-ltb, le-ltb, le-leb, lt-leb, eq-eqb, ne_eqb}

-- each test's value from the fact that a branch left
pub ruleset tests = (lt-ltb, le-ltb, le-leb, lt-leb, eq-eqb, ne_eqb, rules)

-- a loop whose invariant says that what is wanted, w, is what is wanted from here, h: a turn goes on from h to n, and a return answers h
pub on : {A : Type 0} {w h n : A} → w ≡ h → h ≡ n → w ≡ n
on i e = i ∙ e

pub done : {A : Type 0} {w h r : A} → w ≡ h → h ≡ r → r ≡ w
done i e = sym (i ∙ e)

-- what a callee says of its answer r, and what a test said of r
pub told : {r w v : Bool} → r ≡ w → r ≡ v → w ≡ v
told i e = sym i ∙ e

-- a loop over i from `at` to n that found no end: what is wanted is where f ends from `at` on, and from n on that is the place itself
pub over : (f : ℕ → ℕ) (n : ℕ) → ((j : ℕ) → n ≤ j → f j ≡ j) → (at i r : ℕ) → f at ≡ f i → (at ≤ n → i ≤ n) → n ≤ i → r ≡ max at n → r ≡ f at
over f n ends at i r e g l m = go (ltb n at) refl
  where
    go : (b : Bool) → ltb n at ≡ b → r ≡ f at
    go true t =
        let behind = ends at (omega (arith, ltb-true n at t)) in
        omega (arith, m, behind, ltb-true n at t)
    go false t =
        let last = ends i l in
        omega (arith, m, e, last, g (ltb-false n at t), ltb-false n at t)
