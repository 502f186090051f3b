-- Laws of the walk over the sorts of a type, in the code's terms: those before i pass.
use Rattle.std.specs.Prelude.{◌≡◌, Bool, eqb, length, get_or, take}
use Rattle.std.proofs.Math.Path.{refl}
use Rattle.std.proofs.Common.{sym, ◌∙◌, arith, eqb-true}
use Prim.Native.Nat.{ℕ, zero, suc, ◌+◌, ◌-◌, ◌≤◌, ◌<◌, min}
use Rattle.std.proofs.Math.Bool.{true, false, not}
use mathlib.Core.List.{List, [], ◌∷◌, map}
use Rattle.std.proofs.lemmas.Bool.{eqb-false}
use Rattle.meaning.specs.Lists.{pick, any}
use Rattle.meaning.specs.Origins.{Sort}
use Rattle.form_rows.specs.Rows.{sort_of}

unfoldable pub all_pass : (Sort → Bool) → List Sort → Bool
all_pass fits ss = not (any (λ (s : Sort). not (fits s)) ss)

module _ (text tape : List ℕ) (fits : Sort → Bool) where
  -- the sorts that the words stand for
  unfoldable pub inputs_pass : List ℕ → Bool
  inputs_pass ss = all_pass fits (map (sort_of text tape) ss)

  pub record Fitting (kind : ℕ) (sorts : List ℕ) (i : ℕ) : Type 0 where
    pub inside : i ≤ 9
    pub few : i ≤ kind - 2
    pub done : (j : ℕ) → j < i → true ≡ fits (sort_of text tape (get_or sorts j 0))

  pub fitting_start : (kind : ℕ) (sorts : List ℕ) → Fitting kind sorts 0
  fitting_start kind sorts = record { inside = omega arith; few = omega arith; done = λ j h. absurd (omega arith) }

  all_fit : (n : ℕ) (xs : List ℕ) → ((j : ℕ) → j < n → j < length xs → true ≡ fits (sort_of text tape (get_or xs j 0))) → inputs_pass (take n xs) ≡ true
  unfolding inputs_pass all_pass any pick
  all_fit zero xs h = refl
  all_fit (suc n) [] h = refl
  all_fit (suc n) (x ∷ xs) h = rw (← h 0 (omega arith) (omega arith)) (all_fit n xs (λ j l k. h (suc j) (omega arith) (omega arith)))

  one_not : (n : ℕ) (xs : List ℕ) (j : ℕ) → j < n → j < length xs → false ≡ fits (sort_of text tape (get_or xs j 0)) → inputs_pass (take n xs) ≡ false
  unfolding inputs_pass all_pass any pick
  one_not zero xs j h l f = absurd (omega arith)
  one_not (suc n) [] j h l f = absurd (omega arith)
  one_not (suc n) (x ∷ xs) zero h l f = rw (← f)
  one_not (suc n) (x ∷ xs) (suc j) h l f = go (fits (sort_of text tape x)) (one_not n xs j (omega arith) (omega arith) f)
    where
      go : (b : Bool) → not (any (λ (s : Sort). not (fits s)) (map (sort_of text tape) (take n xs))) ≡ false
          → not (pick (not b) true (any (λ (s : Sort). not (fits s)) (map (sort_of text tape) (take n xs)))) ≡ false
      go true ih = ih
      go false ih = refl

  module _ (kind : ℕ) (sorts : List ℕ) (i : ℕ) (inv : Fitting kind sorts i) where
    pub fitting_all : length sorts ≡ 9 → 9 ≤ i → true ≡ inputs_pass (take (kind - 2) sorts)
    fitting_all nine h = sym (all_fit (kind - 2) sorts (λ j l k. inv.done j (omega arith)))

    pub fitting_end : kind ≤ i + 2 → true ≡ inputs_pass (take (kind - 2) sorts)
    fitting_end h = sym (all_fit (kind - 2) sorts (λ j l k. inv.done j (omega arith)))

    module _ (l : i < 9) (h : i + 2 < kind) (r : Bool) (f : r ≡ fits (sort_of text tape (get_or sorts i 0))) where
      pub fitting_again : r ≡ true → Fitting kind sorts (i + 1)
      fitting_again q = record { inside = omega arith; few = omega arith; done = λ j d. at j d (eqb j i) refl }
        where
          at : (j : ℕ) → j < i + 1 → (b : Bool) → eqb j i ≡ b → true ≡ fits (sort_of text tape (get_or sorts j 0))
          at j d true e = let same : j ≡ i = eqb-true j i e in rw same (sym q ∙ f)
          at j d false e = let other = eqb-false j i e in inv.done j (omega arith)

      pub fitting_not : length sorts ≡ 9 → r ≡ false → false ≡ inputs_pass (take (kind - 2) sorts)
      fitting_not nine q = sym (one_not (kind - 2) sorts i (omega arith) (omega arith) (sym q ∙ f))

    -- a loop to the lesser of both bounds
    module _ (few n : ℕ) (d : few ≡ kind - 2) (e : n ≡ min few 9) where
      pub bounded_end : length sorts ≡ 9 → n ≤ i → true ≡ inputs_pass (take (kind - 2) sorts)
      bounded_end nine h = sym (all_fit (kind - 2) sorts (λ j l k. inv.done j (omega arith)))

      module _ (h : i < n) (r : Bool) (f : r ≡ fits (sort_of text tape (get_or sorts i 0))) where
        pub bounded_again : r ≡ true → Fitting kind sorts (i + 1)
        bounded_again = fitting_again (omega arith) (omega arith) r f

        pub bounded_not : length sorts ≡ 9 → r ≡ false → false ≡ inputs_pass (take (kind - 2) sorts)
        bounded_not = fitting_not (omega arith) (omega arith) r f
