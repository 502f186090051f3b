-- Laws of lists: what a test finds in what is kept and in what is joined, and where it finds it.
use Rattle.std.specs.Prelude.{◌≡◌, ℕ, zero, suc, ◌<◌, Bool, ◌&&◌, length, get_or}
use Rattle.std.proofs.Math.Path.{refl, ap}
use Rattle.std.proofs.Common.{sym, ◌∙◌, arith, ltb-true}
use Rattle.std.proofs.Math.Bool.{true, false}
use Rattle.std.proofs.lemmas.Bool.{false≢true}
use Rattle.std.proofs.Math.Option.{some}
use mathlib.Core.List.{List, [], ◌∷◌, ◌++◌, append_assoc}
use Rattle.meaning.specs.Lists.{pick, keep, any, first, before, union}
use Rattle.meaning.specs.OrderLaws.{Every}
use Rattle.form_walks.specs.Lists.{any_before, found_passes}

pub both_true : (a b : Bool) → (a && b) ≡ true → (a ≡ true) × (b ≡ true)
both_true true b h = (refl, h)
both_true false b h = absurd (false≢true h)

module _ {A : Type 0} where
  -- ---- all of a list

  -- what holds of whatever stands somewhere in a list holds of all of it
  pub every_of : (P : A → Type 0) (seen xs : List A) → ((us vs : List A) (x : A) → seen ++ xs ≡ us ++ (x ∷ vs) → P x) → Every P xs
  every_of P seen [] h = tt
  every_of P seen (x ∷ xs) h =
      (h seen xs x refl, every_of P (seen ++ (x ∷ [])) xs (λ us vs y e. h us vs y (sym (append_assoc seen (x ∷ []) xs) ∙ e)))

  -- what holds of all that is kept holds of each that passes
  pub every_kept : (P : A → Type 0) (p : A → Bool) (d : A) (xs : List A) (k : ℕ) → k < length xs → Every P (keep p xs) → p (get_or xs k d) ≡ true
      → P (get_or xs k d)
  unfolding keep pick
  every_kept P p d [] k h all e = absurd (omega arith)
  every_kept P p d (x ∷ xs) k h all e = at k h e (λ j l f. every_kept P p d xs j l (rest (p x) all) f)
    where
      rest : (b : Bool) → Every P (pick b (x ∷ keep p xs) (keep p xs)) → Every P (keep p xs)
      rest true all = all.1
      rest false all = all

      here : (b : Bool) → b ≡ true → Every P (pick b (x ∷ keep p xs) (keep p xs)) → P x
      here true e all = all.0
      here false e all = absurd (false≢true e)

      at : (j : ℕ) → j < suc (length xs) → p (get_or (x ∷ xs) j d) ≡ true
          → ((i : ℕ) → i < length xs → p (get_or xs i d) ≡ true → P (get_or xs i d)) → P (get_or (x ∷ xs) j d)
      at zero l f more = here (p x) f all
      at (suc j) l f more = more j (omega arith) f

  -- ---- what a test finds first is where it finds it

  pub first_keep : (p q : A → Bool) (xs : List A) → first q (keep p xs) ≡ first (λ (x : A). pick (p x) (q x) false) xs
  unfolding first keep pick
  first_keep p q [] = refl
  first_keep p q (x ∷ xs) = go (p x) (first_keep p q xs)
    where
      go : (b : Bool) → first q (keep p xs) ≡ first (λ (y : A). pick (p y) (q y) false) xs
          → first q (pick b (x ∷ keep p xs) (keep p xs)) ≡ pick (pick b (q x) false) (some x) (first (λ (y : A). pick (p y) (q y) false) xs)
      go true ih = ap (pick (q x) (some x)) ih
      go false ih = ih

  module _ (p : A → Bool) where
    later : (b : Bool) (xs : List A) → any p xs ≡ true → pick b true (any p xs) ≡ true
    unfolding pick
    later true xs h = refl
    later false xs h = h

    pub any_middle : (us vs : List A) (x : A) → p x ≡ true → any p (us ++ (x ∷ vs)) ≡ true
    unfolding any pick
    any_middle [] vs x h = rw h
    any_middle (u ∷ us) vs x h = later (p u) (us ++ (x ∷ vs)) (any_middle us vs x h)

    any_front : (xs ys : List A) → any p xs ≡ true → any p (xs ++ ys) ≡ true
    unfolding any pick
    any_front [] ys e = absurd (false≢true e)
    any_front (x ∷ xs) ys e = go (p x) e (any_front xs ys)
      where
        go : (b : Bool) → pick b true (any p xs) ≡ true → (any p xs ≡ true → any p (xs ++ ys) ≡ true) → pick b true (any p (xs ++ ys)) ≡ true
        go true e ih = refl
        go false e ih = ih e

    pub first_passes : (d : A) (xs : List A) → any p xs ≡ true → (before p xs < length xs) × (p (get_or xs (before p xs) d) ≡ true)
    first_passes d xs e =
        let l : before p xs < length xs = ltb-true (before p xs) (length xs) (sym (any_before p xs) ∙ e) in
        (l, found_passes p d xs l)

    -- ---- what is joined, where only equals are one

    module _ (one : A → A → Bool) (equal : (a b : A) → one a b ≡ true → a ≡ b) where
      any_one : (y : A) (xs : List A) → p y ≡ true → any (one y) xs ≡ true → any p xs ≡ true
      unfolding any pick
      any_one y [] e f = absurd (false≢true f)
      any_one y (x ∷ xs) e f = go (one y x) refl f (any_one y xs e)
        where
          go : (b : Bool) → one y x ≡ b → pick b true (any (one y) xs) ≡ true → (any (one y) xs ≡ true → any p xs ≡ true) → pick (p x) true (any p xs) ≡ true
          go true q f ih = rw (sym (ap p (equal y x q)) ∙ e)
          go false q f ih = later (p x) xs (ih f)

      union_front : (xs ys : List A) → any p xs ≡ true → any p (union one xs ys) ≡ true
      unfolding union pick
      union_front xs [] e = e
      union_front xs (y ∷ ys) e = go (any (one y) xs) (union_front xs ys e) (union_front (xs ++ (y ∷ [])) ys (any_front xs (y ∷ []) e))
        where
          go : (b : Bool) → any p (union one xs ys) ≡ true → any p (union one (xs ++ (y ∷ [])) ys) ≡ true
              → any p (pick b (union one xs ys) (union one (xs ++ (y ∷ [])) ys)) ≡ true
          go true here new = here
          go false here new = new

      pub joined_there : (xs ys : List A) → any p ys ≡ true → any p (union one xs ys) ≡ true
      unfolding any union pick
      joined_there xs [] e = absurd (false≢true e)
      joined_there xs (y ∷ ys) e = go (any (one y) xs) (p y) refl refl e (joined_there xs ys) (joined_there (xs ++ (y ∷ [])) ys)
        where
          go : (b c : Bool) → any (one y) xs ≡ b → p y ≡ c → pick c true (any p ys) ≡ true → (any p ys ≡ true → any p (union one xs ys) ≡ true)
              → (any p ys ≡ true → any p (union one (xs ++ (y ∷ [])) ys) ≡ true) → any p (pick b (union one xs ys) (union one (xs ++ (y ∷ [])) ys)) ≡ true
          go true true q r f here new = union_front xs ys (any_one y xs r q)
          go true false q r f here new = here f
          go false true q r f here new = union_front (xs ++ (y ∷ [])) ys (any_middle xs [] y r)
          go false false q r f here new = new f
