-- As much of a union as there is room for.
use Rattle.std.specs.Prelude.{◌≡◌, Bool}
use Rattle.std.proofs.Math.Path.{refl}
use Rattle.std.proofs.Common.{◌∙◌}
use Rattle.std.proofs.Math.Bool.{true, false}
use mathlib.Core.List.{List, [], ◌∷◌, ◌++◌}
use Prim.Native.Nat.{ℕ, suc, ◌+◌, ◌≤◌}
use native.Mathlib.Omega.{arith}
use Rattle.std.proofs.Math.ListN.{length, take, length-append}
use Rattle.std.proofs.Math.Seq.{take-append-le}
use Rattle.meaning.specs.Lists.{pick, any, union}

module _ {A : Type 0} (e : A → A → Bool) where
  -- a union only appends
  pub take_union : (r : ℕ) (xs ys : List A) → r ≤ length xs → take r (union e xs ys) ≡ take r xs
  unfolding union pick
  take_union r xs [] h = refl
  take_union r xs (y ∷ ys) h =
      go (any (e y) xs) (take_union r xs ys h)
      (take_union r (xs ++ (y ∷ [])) ys (omega (arith, length-append xs (y ∷ []))) ∙ take-append-le r xs (y ∷ []) h)
    where
      go : (b : Bool) → take r (union e xs ys) ≡ take r xs → take r (union e (xs ++ (y ∷ [])) ys) ≡ take r xs
          → take r (pick b (union e xs ys) (union e (xs ++ (y ∷ [])) ys)) ≡ take r xs
      go true a b = a
      go false a b = b

  pub length_union : (xs ys : List A) → length (union e xs ys) ≤ length xs + length ys
  unfolding union pick
  length_union xs [] = omega arith
  length_union xs (y ∷ ys) = go (any (e y) xs) (length_union xs ys) (length_union (xs ++ (y ∷ [])) ys)
    where
      go : (b : Bool) → length (union e xs ys) ≤ length xs + length ys → length (union e (xs ++ (y ∷ [])) ys) ≤ length (xs ++ (y ∷ [])) + length ys
          → length (pick b (union e xs ys) (union e (xs ++ (y ∷ [])) ys)) ≤ length xs + suc (length ys)
      go true h l = omega arith
      go false h l = omega (arith, length-append xs (y ∷ []))
