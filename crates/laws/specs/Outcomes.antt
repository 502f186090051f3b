-- What holds of an outcome, if there is one: through checks, steps and choices.
use Rattle.std.specs.Prelude.{◌≡◌, refl, ℕ}
use Rattle.std.proofs.Common.{subst}
use Rattle.meaning.specs.Names.{Name}
use Rattle.meaning.specs.Normal.{Normal}
use Rattle.meaning.specs.Checks.{Outcome, fine, stop, ◌>>=◌, ◌>>◌, Check, checked}
use Rattle.meaning.specs.OutcomeLaws.{then_fine}
use Rattle.meaning.specs.Reached.{Ended, normalised, refused_at, end_or}

-- an outcome, if it is one, is such
abbrev pub Gives : {A : Type 0} → (A → Type 0) → Outcome A → Type 0
Gives P (fine a) = P a
Gives P (stop k w) = Unit {0}

pub gives_bound : {A B : Type 0} (P : A → Type 0) (Q : B → Type 0) (o : Outcome A) (f : A → Outcome B) → Gives P o → ((a : A) → P a → Gives Q (f a))
    → Gives Q (o >>= f)
unfolding ◌>>=◌
gives_bound P Q (fine a) f h g = g a h
gives_bound P Q (stop k w) f h g = tt

-- whatever comes out first
pub gives_after : {A B : Type 0} (Q : B → Type 0) (o : Outcome A) (f : A → Outcome B) → ((a : A) → o ≡ fine a → Gives Q (f a)) → Gives Q (o >>= f)
unfolding ◌>>=◌
gives_after Q (fine a) f h = h a refl
gives_after Q (stop k w) f h = tt

pub gives_then : {B : Type 0} (Q : B → Type 0) (o : Check) (m : Outcome B) → (o ≡ fine tt → Gives Q m) → Gives Q (o >> m)
unfolding ◌>>◌
gives_then Q (fine tt) m g = g refl
gives_then Q (stop k w) m g = tt

pub gives_of : {A : Type 0} (P : A → Type 0) (o : Outcome A) (a : A) → Gives P o → o ≡ fine a → P a
gives_of P o a h e = subst (Gives P) e h

pub checked_gives : (P : Normal → Type 0) (n : Normal) → P n → Gives P (checked n)
unfolding checked
checked_gives P n h = gives_then P _ _ (λ e. gives_then P _ _ (λ f. h))

pub both_fine : (o p : Check) → (o >> p) ≡ fine tt → (o ≡ fine tt) × (p ≡ fine tt)
both_fine o p e = then_fine o p tt e

-- and of how a call ends, if it ends with a normal form
abbrev pub Ends : (Normal → Type 0) → Ended → Type 0
Ends P (normalised count n) = P n
Ends P (refused_at number count m w) = Unit {0}

pub ends_or : (P Q : Normal → Type 0) (count : ℕ) (m : Name) (more : Normal → Ended) (o : Outcome Normal) → Gives P o
    → ((n : Normal) → P n → Ends Q (more n)) → Ends Q (end_or count m more o)
unfolding end_or
ends_or P Q count m more (fine n) h k = k n h
ends_or P Q count m more (stop j w) h k = tt
