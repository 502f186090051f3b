-- What comes of what is made: read back from `Makes`, and from one outcome to the next.
use Rattle.std.specs.Prelude.{◌≡◌, refl, ℕ, List, Ok, Err}
use Rattle.std.proofs.Common.{sym, subst}
use Rattle.meaning.specs.Normal.{Normal}
use Rattle.meaning.specs.Checks as Meaning
use Rattle.meaning.specs.Checks.{Outcome, fine, stop, ◌>>=◌, ◌>>◌, Check}
use Rattle.form.specs.declared.Refusal.{Refusal}
use Rattle.form.specs.declared.Form.{Form}
use Rattle.form.specs.Forms.{Stands}
use Rattle.form.specs.Verdicts.{Made, culprit_of}
use Rattle.form.specs.Blocks.{Makes}

-- what is made agrees with an equal outcome
pub makes_as : (text tape w : List ℕ) (r : Made) (o p : Outcome Normal) → p ≡ o → Makes text tape w r o → Makes text tape w r p
makes_as text tape w r o p e m = subst (λ (q : Outcome Normal). Makes text tape w r q) (sym e) m

-- a refusal is the outcome's
pub refused_outcome : (text tape w : List ℕ) (x : Refusal) (o : Outcome Normal) → Makes text tape w (Err x) o → o ≡ stop x.number (culprit_of text x.culprit)
refused_outcome text tape w x (fine n) m = absurd m
refused_outcome text tape w x (stop j c) m = λ i. stop (sym m.0 i) (sym m.1 i)

pub refused_makes : (text tape w : List ℕ) (x : Refusal) (o : Outcome Normal) → o ≡ stop x.number (culprit_of text x.culprit) → Makes text tape w (Err x) o
refused_makes text tape w x o e = makes_as text tape w (Err x) (stop x.number (culprit_of text x.culprit)) o e (refl, refl)

-- a form stands for the outcome
pub record DoneOutcome (text tape w : List ℕ) (f : Form) (o : Outcome Normal) : Type 0 where
  pub normal : Normal
  pub outcome : o ≡ fine normal
  pub stands : Stands text tape w f normal

pub done_outcome : (text tape w : List ℕ) (f : Form) (o : Outcome Normal) → Makes text tape w (Ok f) o → DoneOutcome text tape w f o
done_outcome text tape w f (fine n) m = record { normal = n; outcome = refl; stands = m }
done_outcome text tape w f (stop k c) m = absurd m

-- ---- one outcome after the other

pub then_stops : {A B : Type 0} (o : Outcome A) (f : A → Outcome B) (k : ℕ) (x : Meaning.Culprit) → o ≡ stop k x → (o >>= f) ≡ stop k x
unfolding ◌>>=◌
then_stops o f k x e = rw e

pub then_goes_on : {A B : Type 0} (o : Outcome A) (f : A → Outcome B) (a : A) → o ≡ fine a → (o >>= f) ≡ f a
unfolding ◌>>=◌
then_goes_on o f a e = rw e

pub stops : {A : Type 0} (c : Check) (m : Outcome A) (k : ℕ) (x : Meaning.Culprit) → c ≡ stop k x → (c >> m) ≡ stop k x
unfolding ◌>>◌
stops c m k x e = rw e

pub goes_on : {A : Type 0} (c : Check) (m : Outcome A) → c ≡ fine tt → (c >> m) ≡ m
unfolding ◌>>◌
goes_on c m e = rw e
