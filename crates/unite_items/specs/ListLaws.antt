-- Laws of lists that grow by what is not there yet: where a thing is found, what union adds, and what stays where it was.
use Rattle.std.specs.Prelude.{◌≡◌, ℕ, ◌<◌, Bool, length}
use Rattle.std.proofs.Math.Path.{refl}
use Rattle.std.proofs.Common.{ap, ◌∙◌, arith}
use Rattle.std.proofs.Math.Bool.{true, false}
use mathlib.Core.List.{List, [], ◌∷◌, ◌++◌, map, map-append}
use Rattle.std.proofs.Math.ListN.{get_or, length-append, get_or-append}
use Rattle.meaning.specs.Lists.{pick, keep, any, union}
use Rattle.form_walks.specs.Lists.{keep_append}

-- ---- union

module _ {A : Type 0} (e : A → A → Bool) where
  pub union_found : (xs : List A) (y : A) → any (e y) xs ≡ true → union e xs (y ∷ []) ≡ xs
  unfolding union pick
  union_found xs y h = rw h

  pub union_new : (xs : List A) (y : A) → any (e y) xs ≡ false → union e xs (y ∷ []) ≡ xs ++ (y ∷ [])
  unfolding union pick
  union_new xs y h = rw h

  pub union_then : (xs ys zs : List A) → union e (union e xs ys) zs ≡ union e xs (ys ++ zs)
  unfolding union pick
  union_then xs [] zs = refl
  union_then xs (y ∷ ys) zs = go (any (e y) xs) (union_then xs ys zs) (union_then (xs ++ (y ∷ [])) ys zs)
    where
      go : (b : Bool) → union e (union e xs ys) zs ≡ union e xs (ys ++ zs)
          → union e (union e (xs ++ (y ∷ [])) ys) zs ≡ union e (xs ++ (y ∷ [])) (ys ++ zs)
          → union e (pick b (union e xs ys) (union e (xs ++ (y ∷ [])) ys)) zs ≡ pick b (union e xs (ys ++ zs)) (union e (xs ++ (y ∷ [])) (ys ++ zs))
      go true h l = h
      go false h l = l

  -- things stay where they were
  pub union_stays : (z : A) (xs ys : List A) (j : ℕ) → j < length xs → get_or (union e xs ys) j z ≡ get_or xs j z
  unfolding union pick
  union_stays z xs [] j h = refl
  union_stays z xs (y ∷ ys) j h =
      go (any (e y) xs) (union_stays z xs ys j h) (union_stays z (xs ++ (y ∷ [])) ys j (omega (arith, length-append xs (y ∷ []))) ∙ get_or-append xs (y ∷ []) z j h)
    where
      go : (b : Bool) → get_or (union e xs ys) j z ≡ get_or xs j z → get_or (union e (xs ++ (y ∷ [])) ys) j z ≡ get_or xs j z
          → get_or (pick b (union e xs ys) (union e (xs ++ (y ∷ [])) ys)) j z ≡ get_or xs j z
      go true l k = l
      go false l k = k

-- ---- what is taken of one thing more

module _ {A B : Type 0} (p : A → Bool) (f : A → B) (x : A) where
  pub map_keep_more : (xs : List A) → map f (keep p (xs ++ (x ∷ []))) ≡ map f (keep p xs) ++ map f (keep p (x ∷ []))
  map_keep_more xs = ap (map f) (keep_append p xs (x ∷ [])) ∙ map-append f (keep p xs) (keep p (x ∷ []))

  pub keep_taken : p x ≡ true → map f (keep p (x ∷ [])) ≡ f x ∷ []
  unfolding keep pick
  keep_taken h = rw h

  pub keep_left : p x ≡ false → map f (keep p (x ∷ [])) ≡ []
  unfolding keep pick
  keep_left h = rw h
