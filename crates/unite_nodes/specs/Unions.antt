-- Lists that grow at their end: sums, what holds of each, and as much of a union as there is room for.
use Rattle.std.specs.Prelude.{◌≡◌, Bool, true, false}
use Rattle.std.proofs.Math.Path.{sym, ap}
use Rattle.std.proofs.Common.{◌∙◌}
use mathlib.Core.List.{List, [], ◌∷◌, ◌++◌}
use Prim.Native.Nat.{ℕ, zero, suc, ◌+◌, ◌-◌, ◌*◌, ◌≤◌}
use native.Mathlib.Omega.{arith}
use Rattle.std.proofs.Math.ListN.{length, take, length-append}
use Rattle.std.proofs.Math.Seq.{take_all, take-append-le}
use Rattle.meaning.specs.Lists.{pick, any, union, sum}
use Rattle.meaning.specs.OrderLaws.{Every}
use Rattle.form.specs.FullLists.{take_union}

module _ {A : Type 0} where
  pub sum_more : (f : A → ℕ) (xs : List A) (y : A) → sum f (xs ++ (y ∷ [])) ≡ sum f xs + f y
  unfolding sum
  sum_more f [] y = omega arith
  sum_more f (x ∷ xs) y = omega (arith, sum_more f xs y)

  pub sum_within : (f : A → ℕ) (most : ℕ) (xs : List A) → Every (λ (x : A). f x ≤ most) xs → sum f xs ≤ length xs * most
  unfolding sum
  sum_within f most [] h = omega arith
  sum_within f most (x ∷ xs) h = omega (arith, h.0, sum_within f most xs h.1)

  pub every_more : (P : A → Type 0) (xs : List A) (y : A) → Every P xs → P y → Every P (xs ++ (y ∷ []))
  every_more P [] y h p = (p, tt)
  every_more P (x ∷ xs) y h p = (h.0, every_more P xs y h.1 p)

  pub every_after : (P : A → Type 0) (xs ys : List A) → Every P (xs ++ ys) → Every P ys
  every_after P [] ys h = h
  every_after P (x ∷ xs) ys h = every_after P xs ys h.1

  module _ (e : A → A → Bool) where
    -- where there is room for r, it does not matter whether what is beyond was dropped on the way
    pub take_union_then : (r : ℕ) (xs : List A) (y : A) (ys : List A) → length xs ≤ r
        → take r (union e (take r (union e xs (y ∷ []))) ys) ≡ take r (union e xs (y ∷ ys))
    unfolding union pick
    take_union_then r xs y ys h = go (any (e y) xs)
      where
        full : (n : ℕ) → n + length xs ≡ r → take r (union e (take r (xs ++ (y ∷ []))) ys) ≡ take r (union e (xs ++ (y ∷ [])) ys)
        full zero z =
            let l : r ≤ length xs = omega (arith, z) in
            ap (λ (zs : List A). take r (union e zs ys)) (take-append-le r xs (y ∷ []) l ∙ take_all r xs h) ∙ take_union e r xs ys l
            ∙ sym (take_union e r (xs ++ (y ∷ [])) ys (omega (arith, length-append xs (y ∷ []))) ∙ take-append-le r xs (y ∷ []) l)
        full (suc n) z = ap (λ (zs : List A). take r (union e zs ys)) (take_all r (xs ++ (y ∷ [])) (omega (arith, z, length-append xs (y ∷ []))))

        go : (b : Bool) → take r (union e (take r (pick b xs (xs ++ (y ∷ [])))) ys) ≡ take r (pick b (union e xs ys) (union e (xs ++ (y ∷ [])) ys))
        go true = ap (λ (zs : List A). take r (union e zs ys)) (take_all r xs h)
        go false = full (r - length xs) (omega arith)
