-- A list is the parts of it that tests pick out, in some order, where each of it passes one test and none passes two.
use Rattle.std.specs.Prelude.{◌≡◌, Bool}
use Rattle.std.proofs.Math.Path.{refl, ap, ap₂, subst}
use Rattle.std.proofs.Math.Bool.{true, false, not}
use Rattle.std.proofs.lemmas.Bool.{false≢true, not-true}
use mathlib.Core.List.Permᴰ
use mathlib.Core.List.{List, [], ◌∷◌, ◌++◌}
use Rattle.meaning.specs.Lists.{pick, keep, any, each}
use Rattle.meaning.specs.OrderLaws.{Every, Pairwise, Rearranged}
use Rattle.laws.specs.EveryLaws.{every_so}
use Rattle.laws.specs.EveryLaws.{every_kept}

module _ {A : Type 0} where
  abbrev others : (A → Bool) → List A → List A
  others p xs = keep (λ (x : A). not (p x)) xs

  split : (p : A → Bool) (xs : List A) → Rearranged xs (keep p xs ++ others p xs)
  unfolding keep pick
  split p [] = Permᴰ.nil
  split p (x ∷ xs) = go (p x) (split p xs)
    where
      go : (b : Bool) → Rearranged xs (keep p xs ++ others p xs)
          → Rearranged (x ∷ xs) (pick b (x ∷ keep p xs) (keep p xs) ++ pick (not b) (x ∷ others p xs) (others p xs))
      go true d = Permᴰ.cons refl d
      go false d = Permᴰ.trans (Permᴰ.cons refl d) (Permᴰ.symm (Permᴰ.middle x (keep p xs) (others p xs)))

  -- none passes both
  abbrev pub Apart : (A → Bool) → (A → Bool) → Type 0
  Apart p q = (x : A) → p x ≡ true → q x ≡ false

  keep_others : (p q : A → Bool) (xs : List A) → Apart p q → keep q (others p xs) ≡ keep q xs
  unfolding keep pick
  keep_others p q [] a = refl
  keep_others p q (x ∷ xs) a = go (p x) refl (keep_others p q xs a)
    where
      go : (b : Bool) → p x ≡ b → keep q (others p xs) ≡ keep q xs → keep q (pick (not b) (x ∷ others p xs) (others p xs)) ≡ keep q (x ∷ xs)
      go true e i = rw (a x e) i
      go false e i = ap (λ (r : List A). pick (q x) (x ∷ r) r) i

  each_others : (p : A → Bool) (ts : List (A → Bool)) (xs : List A) → Every (Apart p) ts
      → each (λ (t : A → Bool). keep t (others p xs)) ts ≡ each (λ (t : A → Bool). keep t xs) ts
  unfolding each
  each_others p [] xs a = refl
  each_others p (t ∷ ts) xs a = ap₂ ◌++◌ (keep_others p t xs a.0) (each_others p ts xs a.1)

  pub parted : (ts : List (A → Bool)) (xs : List A) → Every (λ x. any (λ (t : A → Bool). t x) ts ≡ true) xs → Pairwise Apart ts
      → Rearranged xs (each (λ (t : A → Bool). keep t xs) ts)
  unfolding each any pick
  parted [] [] h a = Permᴰ.nil
  parted [] (x ∷ xs) h a = absurd (false≢true h.0)
  parted (p ∷ ts) xs h a =
      let ys = others p xs in
      let rest = every_so _ (λ x. any (λ (t : A → Bool). t x) ts ≡ true) ys (λ x k. rw (not-true (p x) k.1) at k.0)
      (every_kept (λ x. any (λ (t : A → Bool). t x) (p ∷ ts) ≡ true) (λ (x : A). not (p x)) xs h) in
      let d = subst (Rearranged ys) (each_others p ts xs a.0) (parted ts ys rest a.1) in
      Permᴰ.trans (split p xs) (Permᴰ.append_left (keep p xs) d)
