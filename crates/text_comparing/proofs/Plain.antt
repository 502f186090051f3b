-- Laws of what two names have in common up to the first digit, in the code's terms.
use mathlib.Core.Path.{◌≡◌, refl, sym, ap, ap₂, ◌∙◌}
use mathlib.Core.Bool.{Bool, true, false}
use mathlib.Core.List.{List, [], ◌∷◌}
use Prim.Native.Nat.{ℕ, suc, ◌+◌, ◌<◌, ◌≤◌}
use native.Mathlib.Omega.{arith}
use native.Mathlib.Nat.{add-zero}
use native.Mathlib.Numerals.{add-one}
use lib.Dec.{eqb}
use lib.ListN.{length, get_or, drop, drop_of_length-le}
use lib.Seq.{drop-cons, drop-drop}
use borrow.Author.Rules.{rules}
use borrow.Author.Tests.{eqb-true, eq-eqb, ne_eqb}
use Rattle.meaning.specs.Lists.{pick}
use Rattle.meaning.specs.Names.{is_digit}
use Rattle.text_runs.specs.Orders.{compared}
use Rattle.text_runs.specs.Runs.{plain_size}
use Rattle.text_runs.specs.RunLaws.{other_on}

plain_goes : (a b : List ℕ) → compared a b ≡ compared (drop (plain_size a b) a) (drop (plain_size a b) b)
unfolding plain_size pick
plain_goes [] b = refl
plain_goes (x ∷ a) [] = refl
plain_goes (x ∷ a) (y ∷ b) = go (eqb x y) (is_digit x) refl refl (plain_goes a b)
  where
    go : (s d : Bool) → eqb x y ≡ s → is_digit x ≡ d → compared a b ≡ compared (drop (plain_size a b) a) (drop (plain_size a b) b)
        → compared (x ∷ a) (y ∷ b)
        ≡ compared (drop (pick s (pick d 0 (suc (plain_size a b))) 0) (x ∷ a)) (drop (pick s (pick d 0 (suc (plain_size a b))) 0) (y ∷ b))
    go true true e f i = refl
    go true false e f i = ap (λ (z : ℕ). compared (x ∷ a) (z ∷ b)) (sym (eqb-true x y e)) ∙ other_on x a b f ∙ i
    go false d e f i = refl

pub plain_on_from : (a b : List ℕ) (i j : ℕ) → j ≡ i + plain_size (drop i a) (drop i b) → compared (drop i a) (drop i b) ≡ compared (drop j a) (drop j b)
plain_on_from a b i j e =
    let k = plain_size (drop i a) (drop i b) in
    plain_goes (drop i a) (drop i b) ∙ ap₂ compared (drop-drop k i a ∙ ap (λ (l : ℕ). drop l a) (sym e)) (drop-drop k i b ∙ ap (λ (l : ℕ). drop l b) (sym e))

-- a loop over them is at i
module _ (a b : List ℕ) (i : ℕ) where
  pub plain_short : i < length a → length b ≤ i → i + plain_size (drop i a) (drop i b) ≡ i
  unfolding plain_size
  plain_short h l = rw (drop-cons a i 0, drop_of_length-le b l) (add-zero i)

  pub plain_end : length a ≤ i → i + plain_size (drop i a) (drop i b) ≡ i
  unfolding plain_size
  plain_end l = rw (drop_of_length-le a l) (add-zero i)

  module _ (h : i < length a) (g : i < length b) where
    pub plain_apart : (get_or a i 0 ≡ get_or b i 0 → ⊥) → i + plain_size (drop i a) (drop i b) ≡ i
    unfolding plain_size pick
    plain_apart e = rw (drop-cons a i 0, drop-cons b i 0, ne_eqb (get_or a i 0) (get_or b i 0) e) (add-zero i)

    pub plain_digit : (d : Bool) → get_or a i 0 ≡ get_or b i 0 → d ≡ is_digit (get_or a i 0) → d ≡ true → i + plain_size (drop i a) (drop i b) ≡ i
    unfolding plain_size pick
    plain_digit d e f t = rw (drop-cons a i 0, drop-cons b i 0, eq-eqb (get_or a i 0) (get_or b i 0) e, ← f, t) (add-zero i)

    pub plain_on : (d : Bool) → get_or a i 0 ≡ get_or b i 0 → d ≡ is_digit (get_or a i 0) → d ≡ false
        → i + plain_size (drop i a) (drop i b) ≡ i + 1 + plain_size (drop (i + 1) a) (drop (i + 1) b)
    unfolding plain_size pick
    plain_on d e f t =
        rw (drop-cons a i 0, drop-cons b i 0, eq-eqb (get_or a i 0) (get_or b i 0) e, ← f, t)
        (omega (arith, ap₂ (λ (j k : ℕ). plain_size (drop j a) (drop k b)) (add-one i) (add-one i)))

pub ruleset cases = (plain_short, plain_end, plain_apart, plain_digit, plain_on, rules)
