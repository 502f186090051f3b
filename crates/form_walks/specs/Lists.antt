-- Laws of lists: what a test finds in what is kept and in what is joined, and where it finds it.
use Rattle.std.specs.Prelude.{◌≡◌, Bool, get_or}
use Rattle.std.proofs.Math.Path.{refl, sym, ap}
use Rattle.std.proofs.Common.{◌∙◌, ltb-true, ltb-false, lt-ltb, le-ltb}
use Prim.Native.Nat.{ℕ, suc, ◌≤◌, ◌<◌}
use Rattle.std.proofs.Math.Bool.{true, false}
use Rattle.std.proofs.Math.Option.{none, some}
use mathlib.Core.List.{List, [], ◌∷◌, ◌++◌, append_assoc}
use native.Mathlib.Omega.{arith}
use Rattle.std.proofs.Math.Dec.{ltb}
use Rattle.std.proofs.Math.ListN.{length}
use Rattle.meaning.specs.Lists.{pick, keep, any, first, before, each}

less_both : (a b : ℕ) → ltb (suc a) (suc b) ≡ ltb a b
less_both a b = go (ltb a b) refl
  where
    go : (r : Bool) → ltb a b ≡ r → ltb (suc a) (suc b) ≡ ltb a b
    go true e = lt-ltb (suc a) (suc b) (omega (arith, ltb-true a b e)) ∙ sym e
    go false e = le-ltb (suc a) (suc b) (omega (arith, ltb-false a b e)) ∙ sym e

module _ {A : Type 0} (p : A → Bool) where
  -- ---- where the first that passes stands

  pub before_within : (xs : List A) → before p xs ≤ length xs
  unfolding before pick
  before_within [] = omega arith
  before_within (x ∷ xs) = go (p x) (before_within xs)
    where
      go : (b : Bool) → before p xs ≤ length xs → pick b 0 (suc (before p xs)) ≤ suc (length xs)
      go true h = omega arith
      go false h = omega arith

  pub any_before : (xs : List A) → any p xs ≡ ltb (before p xs) (length xs)
  unfolding any before pick
  any_before [] = sym (le-ltb 0 0 (omega arith))
  any_before (x ∷ xs) = go (p x) (any_before xs)
    where
      go : (b : Bool) → any p xs ≡ ltb (before p xs) (length xs) → pick b true (any p xs) ≡ ltb (pick b 0 (suc (before p xs))) (suc (length xs))
      go true ih = sym (lt-ltb 0 (suc (length xs)) (omega arith))
      go false ih = ih ∙ sym (less_both (before p xs) (length xs))

  pub found : (xs : List A) → before p xs < length xs → any p xs ≡ true
  found xs h = any_before xs ∙ lt-ltb (before p xs) (length xs) h

  pub none_found : (xs : List A) → length xs ≤ before p xs → any p xs ≡ false
  none_found xs h = any_before xs ∙ le-ltb (before p xs) (length xs) h

  pub found_passes : (d : A) (xs : List A) → before p xs < length xs → p (get_or xs (before p xs) d) ≡ true
  unfolding before pick
  found_passes d [] h = absurd (omega arith)
  found_passes d (x ∷ xs) h = go (p x) refl h (found_passes d xs)
    where
      go : (b : Bool) → p x ≡ b → pick b 0 (suc (before p xs)) < suc (length xs) → (before p xs < length xs → p (get_or xs (before p xs) d) ≡ true)
          → p (get_or (x ∷ xs) (pick b 0 (suc (before p xs))) d) ≡ true
      go true e l ih = e
      go false e l ih = ih (omega arith)

  pub first_there : (d : A) (xs : List A) → before p xs < length xs → first p xs ≡ some (get_or xs (before p xs) d)
  unfolding first before pick
  first_there d [] h = absurd (omega arith)
  first_there d (x ∷ xs) h = go (p x) h (first_there d xs)
    where
      go : (b : Bool) → pick b 0 (suc (before p xs)) < suc (length xs) → (before p xs < length xs → first p xs ≡ some (get_or xs (before p xs) d))
          → pick b (some x) (first p xs) ≡ some (get_or (x ∷ xs) (pick b 0 (suc (before p xs))) d)
      go true l ih = refl
      go false l ih = ih (omega arith)

  pub first_nowhere : (xs : List A) → length xs ≤ before p xs → first p xs ≡ none
  unfolding first before pick
  first_nowhere [] h = refl
  first_nowhere (x ∷ xs) h = go (p x) h (first_nowhere xs)
    where
      go : (b : Bool) → suc (length xs) ≤ pick b 0 (suc (before p xs)) → (length xs ≤ before p xs → first p xs ≡ none) → pick b (some x) (first p xs) ≡ none
      go true l ih = absurd (omega arith)
      go false l ih = ih (omega arith)

  -- ---- what is joined, and what is kept

  pub any_append : (xs ys : List A) → any p (xs ++ ys) ≡ pick (any p xs) true (any p ys)
  unfolding any pick
  any_append [] ys = refl
  any_append (x ∷ xs) ys = rw (any_append xs ys) (go (p x))
    where
      go : (b : Bool) → pick b true (pick (any p xs) true (any p ys)) ≡ pick (pick b true (any p xs)) true (any p ys)
      go true = refl
      go false = refl

  pub keep_append : (xs ys : List A) → keep p (xs ++ ys) ≡ keep p xs ++ keep p ys
  unfolding keep pick
  keep_append [] ys = refl
  keep_append (x ∷ xs) ys = rw (keep_append xs ys) (go (p x))
    where
      go : (b : Bool) → pick b (x ∷ (keep p xs ++ keep p ys)) (keep p xs ++ keep p ys) ≡ pick b (x ∷ keep p xs) (keep p xs) ++ keep p ys
      go true = refl
      go false = refl

  pub any_keep : (q : A → Bool) (xs : List A) → any q (keep p xs) ≡ any (λ (x : A). pick (p x) (q x) false) xs
  unfolding any keep pick
  any_keep q [] = refl
  any_keep q (x ∷ xs) = go (p x) (any_keep q xs)
    where
      go : (b : Bool) → any q (keep p xs) ≡ any (λ (y : A). pick (p y) (q y) false) xs
          → any q (pick b (x ∷ keep p xs) (keep p xs)) ≡ pick (pick b (q x) false) true (any (λ (y : A). pick (p y) (q y) false) xs)
      go true ih = ap (pick (q x) true) ih
      go false ih = ih

pub each_append : {A B : Type 0} (f : A → List B) (xs ys : List A) → each f (xs ++ ys) ≡ each f xs ++ each f ys
unfolding each
each_append f [] ys = refl
each_append {A} {B} f (x ∷ xs) ys = ap (λ (r : List B). f x ++ r) (each_append f xs ys) ∙ sym (append_assoc (f x) (each f xs) (each f ys))
