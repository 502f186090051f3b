-- The names of those entries of a module laid flat whose role passes; which roles its parts have: tape/specs/Roles.antt.
use Rattle.std.specs.Prelude.{◌≡◌, ℕ, Bool}
use Rattle.std.proofs.Math.Path.{refl}
use Rattle.std.proofs.Math.Bool.{true, false}
use mathlib.Core.List.{List, [], ◌∷◌, ◌++◌}
use Rattle.meaning.specs.Lists.{pick, each}
use Rattle.meaning.specs.Names.{Name}
use Rattle.tape.specs.Tape.{Entry}
use Rattle.tape.specs.Roles.{All}

unfoldable pub names_with : (ℕ → Bool) → List Entry → List Name
names_with p [] = []
names_with p (e ∷ es) = let more = names_with p es in let here = e.name ∷ more in pick (p e.role) here more

module _ (p : ℕ → Bool) where
  pub names_append : (es fs : List Entry) → names_with p (es ++ fs) ≡ names_with p es ++ names_with p fs
  unfolding names_with pick
  names_append [] fs = refl
  names_append (e ∷ es) fs = rw (names_append es fs) (go (p e.role))
    where
      go : (b : Bool) → pick b (e.name ∷ (names_with p es ++ names_with p fs)) (names_with p es ++ names_with p fs)
          ≡ pick b (e.name ∷ names_with p es) (names_with p es) ++ names_with p fs
      go true = refl
      go false = refl

  -- what each gives
  pub names_each : {A : Type 0} (f : A → List Entry) (g : A → List Name) → ((x : A) → names_with p (f x) ≡ g x) → (xs : List A) → names_with p (each f xs) ≡ each g xs
  unfolding names_with each
  names_each f g h [] = refl
  names_each f g h (x ∷ xs) = rw (names_append (f x), h x, names_each f g h xs)

  -- where no role passes there are none
  pub names_none : (es : List Entry) → All (λ (r : ℕ). p r ≡ false) es → names_with p es ≡ []
  unfolding names_with pick
  names_none [] h = refl
  names_none (e ∷ es) h = rw h.0 (names_none es h.1)
