-- Laws of choices.
use Rattle.std.specs.Prelude.{◌≡◌, refl, Bool, true, false}
use Rattle.meaning.specs.Lists.{pick}

-- what holds of both branches, each under its test, holds of the choice
pub by_cases {ℓ} : {A : Type ℓ} (P : A → Type 0) (b : Bool) (x y : A) → (b ≡ true → P x) → (b ≡ false → P y) → P (pick b x y)
unfolding pick
by_cases P true x y f g = f refl
by_cases P false x y f g = g refl
