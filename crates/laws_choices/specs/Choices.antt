-- The ways through a choice, by the tests that the code has made: what is returned is what the definition picks. A proof names the definitions
-- on its `unfolding` line, and needs no law of its own for each way.
use Rattle.std.specs.Prelude.{◌≡◌, ℕ, ◌≤◌, ◌<◌, Bool, true, false, not, eqb, ltb, leb}
use Rattle.std.proofs.Common.{sym, ap, ◌∙◌, rules, eq-eqb, ne_eqb, lt-ltb, le-ltb, le-leb}
use Rattle.std.proofs.lemmas.Bool.{lt-leb}
use Rattle.meaning.specs.Lists.{pick}

module _ {A : Type 0} (x y z : A) where
  -- ---- by a truth value, and by a callee's answer c for it

  pub is_yes : (b : Bool) → b ≡ true → z ≡ x → z ≡ pick b x y
  unfolding pick
  is_yes b h e = rw h e

  pub is_no : (b : Bool) → b ≡ false → z ≡ y → z ≡ pick b x y
  unfolding pick
  is_no b h e = rw h e

  pub told_yes : (c b : Bool) → c ≡ b → c ≡ true → z ≡ x → z ≡ pick b x y
  told_yes c b t h e = is_yes b (sym t ∙ h) e

  pub told_no : (c b : Bool) → c ≡ b → c ≡ false → z ≡ y → z ≡ pick b x y
  told_no c b t h e = is_no b (sym t ∙ h) e

  -- ---- by numbers, and by the number r for the first of them

  pub eq_yes : (a b : ℕ) → a ≡ b → z ≡ x → z ≡ pick (eqb a b) x y
  eq_yes a b h e = is_yes (eqb a b) (eq-eqb a b h) e

  pub eq_no : (a b : ℕ) → (a ≡ b → ⊥) → z ≡ y → z ≡ pick (eqb a b) x y
  eq_no a b h e = is_no (eqb a b) (ne_eqb a b h) e

  pub lt_yes : (a b : ℕ) → a < b → z ≡ x → z ≡ pick (ltb a b) x y
  lt_yes a b h e = is_yes (ltb a b) (lt-ltb a b h) e

  pub lt_no : (a b : ℕ) → b ≤ a → z ≡ y → z ≡ pick (ltb a b) x y
  lt_no a b h e = is_no (ltb a b) (le-ltb a b h) e

  pub le_yes : (a b : ℕ) → a ≤ b → z ≡ x → z ≡ pick (leb a b) x y
  le_yes a b h e = is_yes (leb a b) (le-leb a b h) e

  pub le_no : (a b : ℕ) → b < a → z ≡ y → z ≡ pick (leb a b) x y
  le_no a b h e = is_no (leb a b) (lt-leb a b h) e

  pub eq_there : (r a b : ℕ) → r ≡ a → r ≡ b → z ≡ x → z ≡ pick (eqb a b) x y
  eq_there r a b t h e = eq_yes a b (sym t ∙ h) e

  pub eq_elsewhere : (r a b : ℕ) → r ≡ a → (r ≡ b → ⊥) → z ≡ y → z ≡ pick (eqb a b) x y
  eq_elsewhere r a b t h e = eq_no a b (λ q. h (t ∙ q)) e

  pub lt_there : (r a b : ℕ) → r ≡ a → r < b → z ≡ x → z ≡ pick (ltb a b) x y
  lt_there r a b t h e = is_yes (ltb a b) (sym (ap (λ (k : ℕ). ltb k b) t) ∙ lt-ltb r b h) e

  pub lt_elsewhere : (r a b : ℕ) → r ≡ a → b ≤ r → z ≡ y → z ≡ pick (ltb a b) x y
  lt_elsewhere r a b t h e = is_no (ltb a b) (sym (ap (λ (k : ℕ). ltb k b) t) ∙ le-ltb r b h) e

-- ---- a test that is returned

pub eq_told : (r a b : ℕ) → r ≡ a → eqb r b ≡ eqb a b
eq_told r a b t = ap (λ (k : ℕ). eqb k b) t

pub lt_told : (r a b : ℕ) → r ≡ a → ltb r b ≡ ltb a b
lt_told r a b t = ap (λ (k : ℕ). ltb k b) t

-- ---- the other truth value

pub not_yes : (c b : Bool) → c ≡ b → c ≡ true → false ≡ not b
not_yes c b t h = ap not (sym h ∙ t)

pub not_no : (c b : Bool) → c ≡ b → c ≡ false → true ≡ not b
not_no c b t h = ap not (sym h ∙ t)

pub ruleset choices = (
  is_yes,
  is_no,
  told_yes,
  told_no,
  eq_yes,
  eq_no,
  lt_yes,
  lt_no,
  le_yes,
  le_no,
  eq_there,
  eq_elsewhere,
  lt_there,
  lt_elsewhere,
  not_yes,
  not_no,
  eq_told,
  lt_told,
  rules,
)
